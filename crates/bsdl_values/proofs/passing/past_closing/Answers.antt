use Rattle.std.proofs.Common.{◌≡◌, ◌≢◌, ◌∷◌, length, true, sym, ap, ◌∙◌, arith}
use Rattle.bsdl_text.specs.Left.{left, lexeme}
use Rattle.bsdl_text.proofs.TokenCounts.{few}
use Rattle.bsdl_values.specs.Passing.{past_closing}
use Rattle.bsdl_values.proofs.PassingLaws.{closes_here, closes_next, opens_next, passes_one, closes_none}
use Rattle.bsdl_values.proofs.passing.past_closing.Goals as goal

pub returns-then-depth-eq0-clause-passes : goal.returns-then-depth-eq0-clause-passes
returns-then-depth-eq0-clause-passes c =
    let none : c.tokens.depth ≡ 0 = omega (arith, c.if-depth-eq0.true) in (
      true,
      c.tokens.invariant.0 ∙ ap (λ n. past_closing n (left c.tokens.rest)) none
          ∙ closes_here (left c.tokens.rest) (lexeme c.in-Some.field-0-0) (left c.in-Some.after) c.in-Some.ensures.tokens (sym c.stands.ensures ∙ c.if-stands.true),
    )

pub overflow_add-depth : goal.overflow_add-depth
overflow_add-depth c =
    let here : left c.tokens.rest ≡ lexeme c.in-Some.field-0-0 ∷ left c.in-Some.after = c.in-Some.ensures.tokens in
    omega (arith, ap length here, c.tokens.invariant.2, few c.args.lexer, c.ranges.lexer)

pub tokens-preserved-else-depth-eq0 : goal.tokens-preserved-else-depth-eq0
tokens-preserved-else-depth-eq0 c =
    let here : left c.tokens.rest ≡ lexeme c.in-Some.field-0-0 ∷ left c.in-Some.after = c.in-Some.ensures.tokens in
    let some : c.tokens.depth ≢ 0 = c.if-depth-eq0.false in (
      c.tokens.invariant.0 ∙ closes_next c.tokens.depth (left c.tokens.rest) (lexeme c.in-Some.field-0-0) (left c.in-Some.after) some here (sym c.stands.ensures ∙ c.if-stands.true),
      omega (arith, ap length here, c.tokens.invariant.1),
      omega (arith, ap length here, c.tokens.invariant.2),
    )

pub tokens-preserved-then-stands-2 : goal.tokens-preserved-then-stands-2
tokens-preserved-then-stands-2 c =
    let here : left c.tokens.rest ≡ lexeme c.in-Some.field-0-0 ∷ left c.in-Some.after = c.in-Some.ensures.tokens in (
      c.tokens.invariant.0 ∙ opens_next c.tokens.depth (left c.tokens.rest) (lexeme c.in-Some.field-0-0) (left c.in-Some.after) here (sym c.stands.ensures ∙ c.if-stands.false)
          (sym c.stands-else-stands.ensures ∙ c.if-stands-2.true),
      omega (arith, ap length here, c.tokens.invariant.1),
      omega (arith, ap length here, c.tokens.invariant.2),
    )

pub tokens-preserved : goal.tokens-preserved
tokens-preserved c =
    let here : left c.tokens.rest ≡ lexeme c.in-Some.field-0-0 ∷ left c.in-Some.after = c.in-Some.ensures.tokens in (
      c.tokens.invariant.0 ∙ passes_one c.tokens.depth (left c.tokens.rest) (lexeme c.in-Some.field-0-0) (left c.in-Some.after) here (sym c.stands.ensures ∙ c.if-stands.false)
          (sym c.stands-else-stands.ensures ∙ c.if-stands-2.false),
      omega (arith, ap length here, c.tokens.invariant.1),
      omega (arith, ap length here, c.tokens.invariant.2),
    )

pub returns-clause-passes : goal.returns-clause-passes
returns-clause-passes c = c.tokens.invariant.0 ∙ closes_none c.tokens.depth (left c.tokens.rest) c.in_default.ensures.tokens
