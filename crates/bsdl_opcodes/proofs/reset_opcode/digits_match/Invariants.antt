use Rattle.std.proofs.Common.{◌≡◌, map, drop}
use Rattle.bsdl_values.specs.InstructionValues.{bit}
use Rattle.bsdl_device.specs.Opcodes.{matches, x_as_0}
use Rattle.bsdl_opcodes.proofs.reset_opcode.digits_match.Given as goal

abbrev pub invariant-loop-i : goal.invariant-loop-i
invariant-loop-i l = matches (map bit (drop l.i l.pattern)) (x_as_0 (map bit (drop l.i l.latch))) ≡ matches (map bit l.pattern) (x_as_0 (map bit l.latch))
