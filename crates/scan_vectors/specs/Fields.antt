-- The fields of a scan, and the bits that they stand for at the scan's length.
use Rattle.std.specs.Prelude.{ℕ, Bool, true, false, List, replicate, Option, Some, None}
use Rattle.jt_bits.specs.Lengths.{resized}
use Rattle.scan_vectors.specs.Vector.{VectorBit, PartBits, join}

-- A length, and the fields in force there, as they are written: a TDI, a TDO if bits are wanted, and a MASK if not
-- all of them are.
pub record Fields : Type 0 where
  pub len : ℕ
  pub tdi : Option (List Bool)
  pub tdo : Option (List Bool)
  pub mask : Option (List Bool)

-- a field at its length: high bits that are not written are 0, and where there is no field all bits are this one
abbrev pub at_length : ℕ → Bool → Option (List Bool) → List Bool
at_length n bit None = replicate n bit
at_length n bit (Some bits) = resized n bits

-- a bit is wanted where TDO is given and MASK is 1
abbrev pub cares : Fields → List Bool
cares f = given f.tdo
  where
    given : Option (List Bool) → List Bool
    given None = replicate f.len false
    given (Some bits) = at_length f.len true f.mask

-- the bits of one part
abbrev pub part_of : Fields → PartBits
part_of f = record { tdi = at_length f.len false f.tdi; want = at_length f.len false f.tdo; care = cares f }

-- where there is no header or trailer
abbrev pub no_fields : Fields
no_fields = record { len = 0; tdi = None; tdo = None; mask = None }

-- The whole vector of three parts.
abbrev pub vector_of : (header body trailer : Fields) → List VectorBit
vector_of h b t = join (part_of h) (part_of b) (part_of t)
