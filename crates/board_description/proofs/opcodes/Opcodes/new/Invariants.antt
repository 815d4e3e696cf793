use Rattle.std.proofs.Common.{take}
use Rattle.board_description.specs.Covered.{opcode_names, opcode_patterns}
use Rattle.board_description.specs.Opcodes.{Holds}
use Rattle.board_description.proofs.opcodes.Opcodes.new.Given as goal

abbrev pub invariant-loop-row : goal.invariant-loop-row
invariant-loop-row l = Holds (opcode_names (take l.row-index l.rows)) (opcode_patterns (take l.row-index l.rows)) l.opcodes
