use Rattle.std.proofs.Common.{◌≡◌, ◌∷◌, length, true, sym, ap, ◌∙◌, arith}
use Rattle.bsdl_text.specs.Left.{left, lexeme}
use Rattle.bsdl_values.proofs.PassingLaws.{semi_here, semi_on, semi_none}
use Rattle.bsdl_values.proofs.passing.past_semi.Goals as goal

pub returns-then-stands-clause-passes : goal.returns-then-stands-clause-passes
returns-then-stands-clause-passes c =
    (true, c.tokens.invariant.0 ∙ semi_here (left c.tokens.rest) (lexeme c.in-Some.field-0-0) (left c.in-Some.after) c.in-Some.ensures.tokens (sym c.stands.ensures ∙ c.if-stands.true))

pub tokens-preserved : goal.tokens-preserved
tokens-preserved c =
    let here : left c.tokens.rest ≡ lexeme c.in-Some.field-0-0 ∷ left c.in-Some.after = c.in-Some.ensures.tokens in (
      c.tokens.invariant.0 ∙ semi_on (left c.tokens.rest) (lexeme c.in-Some.field-0-0) (left c.in-Some.after) here (sym c.stands.ensures ∙ c.if-stands.false),
      omega (arith, ap length here, c.tokens.invariant.1),
    )

pub returns-clause-passes : goal.returns-clause-passes
returns-clause-passes c = c.tokens.invariant.0 ∙ semi_none (left c.tokens.rest) c.in_default.ensures.tokens
