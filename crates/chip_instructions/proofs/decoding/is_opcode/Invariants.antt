use Rattle.std.proofs.Common.{◌≡◌, drop}
use Rattle.bsdl_device.specs.Opcodes.{matches}
use Rattle.chip_instructions.proofs.decoding.is_opcode.Given as goal

abbrev pub invariant-loop-i : goal.invariant-loop-i
invariant-loop-i l = matches l.digits l.latch ≡ matches (drop l.i l.digits) (drop l.i l.latch)
