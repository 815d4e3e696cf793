-- Names that one text holds.
use Rattle.std.specs.Prelude.{◌≡◌, ℕ, ◌+◌, List, [], ◌∷◌, length, take, drop, bytes_eq}
use Rattle.std.specs.BTreeSet.{BTreeSet, contains_text}
use Rattle.std.specs.List.{list_any}
use Rattle.std.proofs.Common.{String, Global}
use Rattle.bsdl_device.specs.Device.{Name}

-- a text cut into names of these lengths
abbrev pub cut : List ℕ → List ℕ → List Name
cut text [] = []
cut text (n ∷ ns) = take n text ∷ cut (drop n text) ns

abbrev pub total : List ℕ → ℕ
total [] = 0
total (n ∷ ns) = n + total ns

-- the lengths are those of the whole text, and these are its names
pub record AreCut (text lens : List ℕ) (known : BTreeSet (String Global)) : Type 0 where
  pub whole : total lens ≡ length text
  pub contains : (q : List ℕ) → contains_text known q ≡ list_any (bytes_eq q) (cut text lens)
