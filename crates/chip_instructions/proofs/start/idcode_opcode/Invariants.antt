use Rattle.std.proofs.Common.{◌≡◌, drop}
use Rattle.bsdl_device.specs.Opcodes.{is_idcode}
use Rattle.std.specs.List.{find}
use Rattle.chip_instructions.proofs.start.idcode_opcode.Given as goal

abbrev pub invariant-loop-row : goal.invariant-loop-row
invariant-loop-row l = find is_idcode l.rows ≡ find is_idcode (drop l.row-index l.rows)
