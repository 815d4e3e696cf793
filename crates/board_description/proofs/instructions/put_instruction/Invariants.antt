use Rattle.std.proofs.Common.{◌≡◌, ◌++◌, take}
use Rattle.std.specs.Prelude.{flat_map}
use Rattle.board_description.specs.Described.{opcode_line}
use Rattle.board_description.proofs.instructions.put_instruction.Given as goal

abbrev pub invariant-loop-pattern : goal.invariant-loop-pattern
invariant-loop-pattern l = l.text.items ≡ l.initial.text.items ++ flat_map (opcode_line l.name l.device l.row.name) (take l.pattern-index l.pattern-items)
