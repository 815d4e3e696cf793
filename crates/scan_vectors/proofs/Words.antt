-- The bits of a whole vector, many at a time.
use Rattle.std.proofs.Common.{◌≡◌, ℕ, zero, suc, ◌+◌, ◌-◌, ◌<◌, ◌≤◌, ◌^◌, ◌==◌, Bool, true, false, List, [], ◌∷◌, refl, sym, ap, ◌∙◌, arith, Option, Some, None, add-zero}
use Rattle.std.specs.Prelude.{slice_get, option_map}
use Rattle.std.proofs.lemmas.Nat.Bits.{bit_at_ones, bit_at-zero}
use Rattle.jt_bits.specs.Packed.{has_bit}
use Rattle.scan_vectors.specs.declared.part.Part.{Part}
use Rattle.scan_vectors.specs.Vector.{VectorBit, tdis}
use Rattle.scan_vectors.specs.Fields.{Fields}
use Rattle.scan_vectors.specs.Held.{field_bit, wanted_bit, wanted_of, part_bit, HoldsPartFrom}

pub zero_bits : (j : ℕ) → has_bit 0 j ≡ false
unfolding has_bit
zero_bits j = ap (λ (n : ℕ). n == 1) (bit_at-zero j)

pub one_bits : (j : ℕ) → j < 64 → has_bit (2 ^ 64 - 1) j ≡ true
unfolding has_bit
one_bits j h = ap (λ (n : ℕ). n == 1) (bit_at_ones 64 j h)

no_tdo : (n i j : ℕ) (tdi tdo mask : Option (List Bool)) → tdo ≡ None → wanted_of (has_bit 0 j) (has_bit 0 j) ≡ wanted_bit (record { len = n; tdi = tdi; tdo = tdo; mask = mask }) i
no_tdo n i j tdi None mask none = ap (λ (care : Bool). wanted_of care (has_bit 0 j)) (zero_bits j)
no_tdo n i j tdi (Some bits) mask none = absurd (cc)

pub nothing_wanted : (f : Fields) (i j : ℕ) → f.tdo ≡ None → wanted_of (has_bit 0 j) (has_bit 0 j) ≡ wanted_bit f i
nothing_wanted f i j none = no_tdo f.len i j f.tdi f.tdo f.mask none

no_tdo_bit : (n i : ℕ) (tdi tdo mask : Option (List Bool)) → tdo ≡ None → wanted_bit (record { len = n; tdi = tdi; tdo = tdo; mask = mask }) i ≡ None
no_tdo_bit n i tdi None mask none = refl
no_tdo_bit n i tdi (Some bits) mask none = absurd (cc)

pub unwanted_bit : (f : Fields) (i : ℕ) → f.tdo ≡ None → wanted_bit f i ≡ None
unwanted_bit f i none = no_tdo_bit f.len i f.tdi f.tdo f.mask none

pub get-tdi : (vs : List VectorBit) (i : ℕ) → slice_get (tdis vs) i ≡ option_map {U = Bool} (λ (b : VectorBit). b.tdi) (slice_get vs i)
get-tdi [] i = refl
get-tdi (v ∷ vs) zero = refl
get-tdi (v ∷ vs) (suc i) = get-tdi vs i

-- bit i stands at place k of the part
pub stands_there : (vs : List VectorBit) (i : ℕ) (p : Part) (f : Fields) (k : ℕ) → k < f.len → HoldsPartFrom vs i p f k → slice_get vs i ≡ Some (part_bit p f k)
stands_there vs i p f k inside stands =
    ap (slice_get vs) (sym (add-zero i)) ∙ stands 0 (omega arith) ∙ ap (λ m. Some (part_bit p f m)) (add-zero k)

abbrev wanted_at : List VectorBit → ℕ → Option (Option Bool)
wanted_at vs i = option_map {U = Option Bool} (λ (b : VectorBit). b.wanted) (slice_get vs i)

-- a run inside one part, whose places there begin at k
module _ (vs : List VectorBit) (i : ℕ) (p : Part) (f : Fields) (k len : ℕ) (inside : k + len ≤ f.len) (stands : HoldsPartFrom vs i p f k) where
  pub tdi_run : (word : ℕ) → len ≤ 64 → ((j : ℕ) → j < 64 → has_bit word j ≡ field_bit false f.tdi (k + j))
      → (j : ℕ) → j < len → slice_get (tdis vs) (i + j) ≡ Some (has_bit word j)
  tdi_run word few is j h =
      get-tdi vs (i + j) ∙ ap (option_map {U = Bool} (λ (b : VectorBit). b.tdi)) (stands j (omega arith)) ∙ ap Some (sym (is j (omega arith)))

  pub wanted_run : (care word : ℕ) → len ≤ 64 → ((j : ℕ) → j < 64 → wanted_of (has_bit care j) (has_bit word j) ≡ wanted_bit f (k + j))
      → (j : ℕ) → j < len → wanted_at vs (i + j) ≡ Some (wanted_of (has_bit care j) (has_bit word j))
  wanted_run care word few is j h =
      ap (option_map {U = Option Bool} (λ (b : VectorBit). b.wanted)) (stands j (omega arith)) ∙ ap Some (sym (is j (omega arith)))

  pub unwanted_run : ((j : ℕ) → j < len → wanted_bit f (k + j) ≡ None) → (j : ℕ) → j < len → wanted_at vs (i + j) ≡ Some None
  unwanted_run is j h =
      ap (option_map {U = Option Bool} (λ (b : VectorBit). b.wanted)) (stands j (omega arith)) ∙ ap Some (is j h)
