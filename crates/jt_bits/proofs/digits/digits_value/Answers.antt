use Rattle.std.proofs.Common.{[], get_or, refl, sym, ap, ◌∙◌, arith}
use Rattle.jt_bits.specs.Words.{number}
use Rattle.jt_bits.proofs.HexLaws.{binary-none}
use Rattle.jt_bits.proofs.Solid.{digit_at, is_digit, value_more, small_more, room_more}
use Rattle.jt_bits.proofs.digits.digits_value.Goals as goal

pub loop-digit-init : goal.loop-digit-init
loop-digit-init c = record { worth = sym (ap number (binary-none [] refl)); small = omega arith }

pub overflow_mul-value : goal.overflow_mul-value
overflow_mul-value c =
    omega (arith, room_more c.loop-digit.digit-index c.loop-digit.value c.loop-digit.invariant.small (omega (arith, c.requires.few, c.loop-digit-test.true)))

pub overflow_add-value : goal.overflow_add-value
overflow_add-value c =
    let good = digit_at c.args.digits.now c.loop-digit.digit-index c.requires.solid c.loop-digit-test.true in
    let x = is_digit (get_or c.args.digits.now c.loop-digit.digit-index 0) good in
    omega (arith, x.small, c.from.ensures, c.digit_value.ensures, room_more c.loop-digit.digit-index c.loop-digit.value c.loop-digit.invariant.small (omega (arith, c.requires.few, c.loop-digit-test.true)))

pub loop-digit-preserved : goal.loop-digit-preserved
loop-digit-preserved c =
    let good = digit_at c.args.digits.now c.loop-digit.digit-index c.requires.solid c.loop-digit-test.true in
    let x = is_digit (get_or c.args.digits.now c.loop-digit.digit-index 0) good in
    record {
      worth = value_more c.args.digits.now c.loop-digit.digit-index c.loop-digit.value c.from.result c.loop-digit-test.true good c.loop-digit.invariant.worth (c.from.ensures ∙ c.digit_value.ensures);
      small = small_more c.loop-digit.digit-index c.loop-digit.value c.from.result c.loop-digit.invariant.small (omega (arith, x.small, c.from.ensures, c.digit_value.ensures));
    }
