-- The wanted bits that did not come out (Serial Vector Format, revision E, SDR and SIR: TDO under MASK).
use Rattle.std.specs.Prelude.{Bool, ℕ, ◌+◌, List, [], ◌∷◌, ◌++◌, length, take, if◌then◌else◌}
use Rattle.scan_vectors.specs.declared.failures.Failures.{Failures}
use Rattle.scan_vectors.specs.declared.failures.Mismatch.{Mismatch}
use Rattle.scan_vectors.specs.Vector.{VectorBit, differs}

-- Every bit of a command's vector whose wanted value differs from what came out, in order.
abbrev pub differing : (command : ℕ) → List VectorBit → List Bool → List Mismatch
differing command (v ∷ vs) (b ∷ bits) =
    let rest = differing command vs bits in
    if differs v.wanted b then record { command = command; part = v.part; bit = v.place } ∷ rest else rest
differing command _ _ = []

-- how many failures a list has room for
abbrev pub most_listed : ℕ
most_listed = 256

-- Of all failures the first ones, and how many they are.
pub record Found : Type 0 where
  pub list : List Mismatch
  pub total : ℕ

abbrev pub none_found : Found
none_found = record { list = []; total = 0 }

-- what is listed and counted, with these behind all that were found
abbrev pub with_found : List Mismatch → Found → Found
with_found more f = record { list = take most_listed (f.list ++ more); total = f.total + length more }

-- what the failures of the code stand for
abbrev pub found : Failures → Found
found f = record { list = f.list.items; total = f.total }
