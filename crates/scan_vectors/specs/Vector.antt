-- The whole vector of a scan, and the judgement of what came out (Serial Vector Format, revision E, SDR, SIR and
-- their headers and trailers).
use Rattle.std.specs.Prelude.{Bool, true, false, not, ℕ, suc, List, [], ◌∷◌, ◌++◌, map, Option, Some, None}
use Rattle.std.specs.Prelude.{if◌then◌else◌, filter, is_some}
use Rattle.scan_vectors.specs.declared.part.Part.{Part}
use Rattle.scan_vectors.specs.declared.part.Part.TheVariants.{Header, Data, Trailer}

-- one bit of a whole vector: what is shifted in, what is wanted out, and where it stands
pub record VectorBit : Type 0 where
  pub tdi : Bool
  pub wanted : Option Bool
  pub part : Part
  pub place : ℕ

-- one part: its TDI, its TDO, and a 1 where TDO is given and MASK is 1; all of one length
pub record PartBits : Type 0 where
  pub tdi : List Bool
  pub want : List Bool
  pub care : List Bool

abbrev pub bits_from : Part → ℕ → (tdi want care : List Bool) → List VectorBit
bits_from part k (t ∷ ts) (w ∷ ws) (c ∷ cs) =
    record { tdi = t; wanted = if c then Some w else None; part = part; place = k } ∷ bits_from part (suc k) ts ws cs
bits_from part k _ _ _ = []

-- The whole vector: header, then body, then trailer.
abbrev pub join : (header body trailer : PartBits) → List VectorBit
join h b t =
    bits_from Header 0 h.tdi h.want h.care ++ bits_from Data 0 b.tdi b.want b.care
    ++ bits_from Trailer 0 t.tdi t.want t.care

abbrev pub tdis : List VectorBit → List Bool
tdis v = map (λ b. b.tdi) v

-- the bits that are wanted, each of which a read byte asks for
abbrev pub wanted_bits : List VectorBit → List VectorBit
wanted_bits v = filter (λ b. is_some b.wanted) v

abbrev pub differs : Option Bool → Bool → Bool
differs (Some true) b = not b
differs (Some false) b = b
differs None b = false

-- The least bit whose wanted value differs from what came out: its part and its place there.
abbrev pub judge : List VectorBit → List Bool → Option (Part × ℕ)
judge (v ∷ vs) (b ∷ bits) = if differs v.wanted b then Some (v.part, v.place) else judge vs bits
judge _ _ = None
