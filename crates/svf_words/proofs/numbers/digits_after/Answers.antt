use Rattle.std.proofs.Common.{◌+◌, ◌*◌, ◌^◌, sym, ◌∙◌, length, arith}
use Rattle.svf_words.proofs.Digits.{one_digit}
use Rattle.svf_words.proofs.numbers.digits_after.Goals as goal

pub overflow_mul-value : goal.overflow_mul-value
overflow_mul-value c =
    let step = one_digit c.loop-byte.value c.args.digits.now c.loop-byte.byte-index (10 ^ 18) c.loop-byte-test.true c.loop-byte.invariant.1 c.loop-byte.invariant.2 in
    omega (arith, step.fits)

pub overflow_add-value : goal.overflow_add-value
overflow_add-value c =
    let step = one_digit c.loop-byte.value c.args.digits.now c.loop-byte.byte-index (10 ^ 18) c.loop-byte-test.true c.loop-byte.invariant.1 c.loop-byte.invariant.2 in
    omega (arith, step.fits, c.from.ensures)

pub loop-byte-preserved : goal.loop-byte-preserved
loop-byte-preserved c =
    let step = one_digit c.loop-byte.value c.args.digits.now c.loop-byte.byte-index (10 ^ 18) c.loop-byte-test.true c.loop-byte.invariant.1 c.loop-byte.invariant.2 in
    let bound = one_digit c.loop-byte.value c.args.digits.now c.loop-byte.byte-index ((c.args.start + 1) * 10 ^ length c.args.digits.now) c.loop-byte-test.true c.loop-byte.invariant.1 c.loop-byte.invariant.3 in
    rw c.from.ensures (sym step.value ∙ c.loop-byte.invariant.0, step.digits, step.room, bound.room)
