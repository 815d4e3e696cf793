use Rattle.std.proofs.Common.{◌∙◌, arith}
use Rattle.svf_words.proofs.NumberLaws.{pow_small, power_positive, time_up, time_down}
use Rattle.svf_words.proofs.numbers.picoseconds.Goals as goal

pub pow-requires-else-zeros-ge24 : goal.pow-requires-else-zeros-ge24
pow-requires-else-zeros-ge24 c = pow_small _ (omega arith)

pub div_ceil-requires : goal.div_ceil-requires
div_ceil-requires c = rw c.pow-else-zeros-ge24.ensures (power_positive _)

pub returns-then-zeros-ge24 : goal.returns-then-zeros-ge24
returns-then-zeros-ge24 c = rw (c.from.ensures, c.pow.ensures) (time_up c.args.mantissa c.args.zeros c.if-zeros-ge24.true)

pub returns-else-zeros-ge24 : goal.returns-else-zeros-ge24
returns-else-zeros-ge24 c =
    c.div_ceil.ensures ∙ rw c.from-else-zeros-ge24.ensures (time_down c.args.mantissa c.args.zeros c.pow-else-zeros-ge24.result (omega arith) c.pow-else-zeros-ge24.ensures)
