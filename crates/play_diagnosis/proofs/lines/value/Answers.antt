use Rattle.std.proofs.Common.{arith}
use Rattle.play_diagnosis.proofs.NumberLaws.{few_small}
use Rattle.play_diagnosis.proofs.lines.value.Goals as goal

pub overflow_mul-value : goal.overflow_mul-value
overflow_mul-value c =
    let small = few_small c.args.digits.now c.loop-i.i c.requires.digits c.requires.few in
    omega (arith, small, c.loop-i.invariant)

pub overflow_add-value : goal.overflow_add-value
overflow_add-value c =
    let small = few_small c.args.digits.now c.loop-i.i c.requires.digits c.requires.few in
    omega (arith, small, c.loop-i.invariant, c.from.ensures, c.digit_of.ensures.small)
