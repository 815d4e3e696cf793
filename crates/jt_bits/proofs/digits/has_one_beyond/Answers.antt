use Rattle.std.proofs.Common.{sym, ◌∙◌, arith}
use Rattle.jt_bits.proofs.HexLaws.{beyond_short, beyond_found, beyond_next, beyond-none, white_bits, digit_bits}
use Rattle.jt_bits.proofs.digits.has_one_beyond.Goals as goal

pub returns-then-rest-left : goal.returns-then-rest-left
returns-then-rest-left c = sym (beyond_short c.loop-digit.left c.loop-digit.rest.now c.if-rest-left.true) ∙ c.loop-digit.invariant

pub returns-then-digit_has_one_beyond : goal.returns-then-digit_has_one_beyond
returns-then-digit_has_one_beyond c =
    beyond_found c.args.n c.loop-digit.left c.loop-digit.rest.now c.in-Some.front.now c.in-Some.digit.now c.args.digits.now c.in-Some.ensures.cases.0 c.loop-digit.invariant c.if-digit_has_one_beyond.ensures

pub loop-digit-preserved-then-not-is_white : goal.loop-digit-preserved-then-not-is_white
loop-digit-preserved-then-not-is_white c =
    beyond_next c.args.n c.loop-digit.left c.loop-digit.rest.now c.in-Some.front.now c.in-Some.digit.now c.args.digits.now c.saturating_sub-left.result c.in-Some.ensures.cases.0 c.loop-digit.invariant c.if-digit_has_one_beyond.ensures
    (rw (digit_bits c.in-Some.digit.now (sym c.if-not-is_white.ensures)) c.saturating_sub-left.ensures)

pub loop-digit-preserved : goal.loop-digit-preserved
loop-digit-preserved c =
    beyond_next c.args.n c.loop-digit.left c.loop-digit.rest.now c.in-Some.front.now c.in-Some.digit.now c.args.digits.now c.loop-digit.left c.in-Some.ensures.cases.0 c.loop-digit.invariant c.if-digit_has_one_beyond.ensures
    (rw (white_bits c.in-Some.digit.now (sym c.if-not-is_white.ensures)) (omega arith))

pub returns : goal.returns
returns c = sym (beyond-none c.loop-digit.left c.loop-digit.rest.now c.in_default.ensures.cases) ∙ c.loop-digit.invariant
