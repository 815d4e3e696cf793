use Rattle.std.proofs.Common.{◌≡◌, map, drop}
use Rattle.std.specs.Prelude.{reverse}
use Rattle.std.specs.List.{find}
use Rattle.bsdl_values.specs.InstructionValues.{bit}
use Rattle.bsdl_values.specs.InstructionView.{opcode_row}
use Rattle.bsdl_opcodes.specs.ResetOpcode.{opcode}
use Rattle.bsdl_device.specs.Opcodes.{names_it, x_as_0}
use Rattle.bsdl_opcodes.proofs.reset_opcode.names_idcode.Given as goal

abbrev pub invariant-loop-row : goal.invariant-loop-row
invariant-loop-row l =
    find (names_it (x_as_0 (reverse (map bit l.latch)))) (map opcode (map opcode_row (drop l.row-index l.rows))) ≡ find (names_it (x_as_0 (reverse (map bit l.latch)))) (map opcode (map opcode_row l.rows))
