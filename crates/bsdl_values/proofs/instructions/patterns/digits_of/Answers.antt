use Rattle.std.proofs.Common.{◌≡◌, true, false, ◌+◌, ◌∷◌, length, ap, ◌∙◌, arith}
use Rattle.std.proofs.lemmas.List.Folds.{list_all-append}
use Rattle.bsdl_text.specs.Left.{left, lexeme}
use Rattle.bsdl_values.specs.InstructionValues.{are_digits}
use Rattle.bsdl_values.proofs.PatternLaws.{more_digits, no_digits, digits_end}
use Rattle.bsdl_values.proofs.instructions.patterns.digits_of.Goals as goal

pub tokens-preserved : goal.tokens-preserved
tokens-preserved c =
    let here : left c.tokens.rest ≡ lexeme c.in-Some-next.token ∷ left c.in-Some-next.after = c.in-Some-next.ensures.tokens in
    let is : are_digits (lexeme c.in-Some-next.token) ≡ true = grind (arith, c.are_digits-in-Some-next.ensures, c.if-not-are_digits.false) in
    let less : length (left c.tokens.rest) ≡ length (left c.in-Some-next.after) + 1 = omega (arith, ap length here) in (
      rw c.in-Ok-extend_from_slice.ensures.items (c.tokens.invariant.0 ∙ more_digits c.tokens.digits.items (left c.tokens.rest) (lexeme c.in-Some-next.token) (left c.in-Some-next.after) here is),
      omega (arith, less, c.tokens.invariant.1),
      rw (c.in-Ok-extend_from_slice.ensures.items, list_all-append, c.tokens.invariant.2) is,
    )

pub returns-then-not-are_digits-clause-gives : goal.returns-then-not-are_digits-clause-gives
returns-then-not-are_digits-clause-gives c =
    let is : are_digits (lexeme c.in-Some-next.token) ≡ false = grind (arith, c.are_digits-in-Some-next.ensures, c.if-not-are_digits.true) in
    c.tokens.invariant.0 ∙ no_digits c.tokens.digits.items (left c.tokens.rest) (lexeme c.in-Some-next.token) (left c.in-Some-next.after) c.in-Some-next.ensures.tokens is

pub returns-clause-gives : goal.returns-clause-gives
returns-clause-gives c = c.tokens.invariant.0 ∙ digits_end c.tokens.digits.items (left c.tokens.rest) c.in_default.ensures.tokens
