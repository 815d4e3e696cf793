-- Texts of pieces.
use Rattle.std.specs.Prelude.{ℕ, List, flat_map}

-- texts, one after another
abbrev pub texts : List (List ℕ) → List ℕ
texts pieces = flat_map (λ p. p) pieces
