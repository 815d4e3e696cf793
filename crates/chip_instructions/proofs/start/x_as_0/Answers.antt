use Rattle.std.proofs.Common.{arith}
use Rattle.chip_instructions.proofs.StartLaws.{x_as_0_is}
use Rattle.chip_instructions.proofs.start.x_as_0.Goals as goal

pub returns : goal.returns
returns c = x_as_0_is c.loop-i.bits c.args.digits.now c.loop-i.i (omega arith) c.loop-i.invariant.long c.loop-i.invariant.below
