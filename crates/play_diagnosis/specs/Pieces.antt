-- A text that is cut at a byte.
use Rattle.std.specs.Prelude.{ℕ, ◌==◌, List, [], Option, Some, None}
use Rattle.std.specs.List.{slice_split}

-- what is left behind such a byte, cut on; nothing where there was none
abbrev pub pieces : (byte : ℕ) → Option (List ℕ) → List (List ℕ)
pieces byte None = []
pieces byte (Some rest) = slice_split (λ b. b == byte) rest
