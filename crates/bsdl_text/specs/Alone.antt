-- Tokens of one byte, as marks are.
use Rattle.std.specs.Prelude.{ℕ, Bool, false, List, [], ◌∷◌, bytes_eq}
use Rattle.bsdl_text.specs.Cutting.{Lexeme}

-- whether the first of these tokens is this byte alone
abbrev pub stands_alone : ℕ → List Lexeme → Bool
stands_alone byte [] = false
stands_alone byte (t ∷ ts) = bytes_eq t.text (byte ∷ [])
