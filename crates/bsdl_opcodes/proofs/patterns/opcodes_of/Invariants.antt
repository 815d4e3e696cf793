use Rattle.std.proofs.Common.{◌≡◌, map, take}
use Rattle.bsdl_values.specs.InstructionView.{opcode_row}
use Rattle.bsdl_opcodes.specs.ResetOpcode.{opcode}
use Rattle.bsdl_opcodes.proofs.patterns.opcodes_of.Given as goal

abbrev pub invariant-loop-row : goal.invariant-loop-row
invariant-loop-row l = l.opcodes.items ≡ map opcode (map opcode_row (take l.row-index l.rows))
