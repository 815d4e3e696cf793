-- Tokens that are passed over.
use Rattle.std.specs.Prelude.{ℕ, suc, pred, ◌==◌, Bool, true, if◌then◌else◌, List, [], ◌∷◌, None}
use Rattle.bsdl_text.specs.Cutting.{Lexeme}
use Rattle.bsdl_text.specs.Reading.{Read, fits, misfit, ◌>>=◌, mark, is_mark_of}
use Rattle.bsdl_text.specs.Marks.{opening, closing, semi}

-- up to the bracket that closes, with `n` open within
unfoldable pub past_closing : ℕ → List Lexeme → Read Bool
past_closing n [] = misfit None
past_closing n (t ∷ ts) =
    if is_mark_of closing t then (if n == 0 then fits true ts else past_closing (pred n) ts)
    else if is_mark_of opening t then past_closing (suc n) ts
    else past_closing n ts

-- tokens between matching brackets
abbrev pub brackets : List Lexeme → Read Bool
brackets ts = mark opening ts >>= λ m a. past_closing 0 a

-- up to `;`
unfoldable pub past_semi : List Lexeme → Read Bool
past_semi [] = misfit None
past_semi (t ∷ ts) = if is_mark_of semi t then fits true ts else past_semi ts
