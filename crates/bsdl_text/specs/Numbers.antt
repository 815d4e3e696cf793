-- Digits of numbers of any length.
use Rattle.std.specs.Prelude.{ℕ, ◌==◌, if◌then◌else◌, List, [], ◌∷◌}

-- the digit `0`
abbrev pub zero_digit : ℕ
zero_digit = 48

-- without zeros before the others; 0 has none
abbrev pub significant : List ℕ → List ℕ
significant [] = []
significant (d ∷ ds) = if d == zero_digit then significant ds else d ∷ ds
