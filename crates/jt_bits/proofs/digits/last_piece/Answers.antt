use Rattle.std.proofs.Common.{◌-◌, inl, inr, refl, sym, arith}
use Rattle.jt_bits.proofs.Pieces.{reading_none, reading_white, reading_digit, reading_done}
use Rattle.jt_bits.proofs.digits.last_piece.Goals as goal

pub loop-digit-init : goal.loop-digit-init
loop-digit-init c = record {
  some = omega arith;
  reading = reading_none _ c.args.text.now refl c.requires;
}

pub loop-digit-preserved-else-left-eq0 : goal.loop-digit-preserved-else-left-eq0
loop-digit-preserved-else-left-eq0 c = record {
  some = omega arith;
  reading = reading_digit c.loop-digit.digits c.loop-digit.rest.now c.in-Some.front.now c.args.text.now c.loop-digit.left (c.loop-digit.left - 1) c.in-Some.digit.now
      c.in-Some.ensures.cases.0 (sym c.if-not-is_white.ensures) c.loop-digit.invariant.some refl c.loop-digit.invariant.reading;
}

pub loop-digit-preserved : goal.loop-digit-preserved
loop-digit-preserved c = record {
  some = c.loop-digit.invariant.some;
  reading = reading_white c.loop-digit.digits c.loop-digit.rest.now c.in-Some.front.now c.args.text.now c.loop-digit.left c.in-Some.digit.now
      c.in-Some.ensures.cases.0 (sym c.if-not-is_white.ensures) c.loop-digit.invariant.reading;
}

pub returns-then-left-eq0-clause-digits : goal.returns-then-left-eq0-clause-digits
returns-then-left-eq0-clause-digits c =
    let end = reading_done _ c.in-Some.front.now c.args.text.now (c.loop-digit.left - 1) (inl c.if-left-eq0.true)
    (reading_digit c.loop-digit.digits c.loop-digit.rest.now c.in-Some.front.now c.args.text.now c.loop-digit.left (c.loop-digit.left - 1) c.in-Some.digit.now
    c.in-Some.ensures.cases.0 (sym c.if-not-is_white.ensures) c.loop-digit.invariant.some refl c.loop-digit.invariant.reading) in
    end.good

pub returns-then-left-eq0-clause-spelled : goal.returns-then-left-eq0-clause-spelled
returns-then-left-eq0-clause-spelled c =
    let end = reading_done _ c.in-Some.front.now c.args.text.now (c.loop-digit.left - 1) (inl c.if-left-eq0.true)
    (reading_digit c.loop-digit.digits c.loop-digit.rest.now c.in-Some.front.now c.args.text.now c.loop-digit.left (c.loop-digit.left - 1) c.in-Some.digit.now
    c.in-Some.ensures.cases.0 (sym c.if-not-is_white.ensures) c.loop-digit.invariant.some refl c.loop-digit.invariant.reading) in
    end.spelled

pub returns-then-left-eq0-clause-rest : goal.returns-then-left-eq0-clause-rest
returns-then-left-eq0-clause-rest c =
    let end = reading_done _ c.in-Some.front.now c.args.text.now (c.loop-digit.left - 1) (inl c.if-left-eq0.true)
    (reading_digit c.loop-digit.digits c.loop-digit.rest.now c.in-Some.front.now c.args.text.now c.loop-digit.left (c.loop-digit.left - 1) c.in-Some.digit.now
    c.in-Some.ensures.cases.0 (sym c.if-not-is_white.ensures) c.loop-digit.invariant.some refl c.loop-digit.invariant.reading) in
    end.rest_is

pub returns-clause-spelled : goal.returns-clause-spelled
returns-clause-spelled c =
    let end = reading_done c.loop-digit.digits c.loop-digit.rest.now c.args.text.now c.loop-digit.left (inr c.in_default.ensures.cases) c.loop-digit.invariant.reading in
    end.spelled

pub returns-clause-rest : goal.returns-clause-rest
returns-clause-rest c =
    let end = reading_done c.loop-digit.digits c.loop-digit.rest.now c.args.text.now c.loop-digit.left (inr c.in_default.ensures.cases) c.loop-digit.invariant.reading in
    end.rest_is
