use Rattle.std.proofs.Common.{◌≡◌, ℕ, true, List, [], ◌∷◌, drop, Option, Some, None, is_some, IfSome, sym, ap}
use Rattle.bsdl_text.specs.declared.tokens.Lexer.{Lexer}
use Rattle.bsdl_text.specs.Alone.{stands_alone}
use Rattle.bsdl_text.specs.Cutting.{Lexeme}
use Rattle.bsdl_text.specs.Left.{left}
use Rattle.bsdl_text.specs.Reading.{fits, mark, is_mark_of}
use Rattle.bsdl_text.proofs.reading.behind.Goals as goal

passed : (c : ℕ) (ts : List Lexeme) (found : Option Lexer) → is_some found ≡ stands_alone c ts → IfSome found (λ l. left l ≡ drop 1 ts)
    → IfSome found (λ l. (t : Lexeme) × (mark c ts ≡ fits t (left l)))
passed c ts None stands behind = tt
passed c [] (Some l) stands behind = absurd (cc)
passed c (t ∷ ts) (Some l) stands behind = let is : is_mark_of c t ≡ true = sym stands in (t, rw is (ap (fits t) (sym behind)))

pub returns-clause-passes : goal.returns-clause-passes
returns-clause-passes c = passed c.args.byte (left c.args.lexer) c.behind_byte.result c.behind_byte.ensures.stands c.behind_byte.ensures.behind
