use Rattle.std.proofs.Common.{◌≡◌, ◌++◌, take}
use Rattle.std.specs.Prelude.{flat_map}
use Rattle.board_description.specs.Described.{instruction_lines}
use Rattle.board_description.proofs.instructions.put_instructions.Given as goal

abbrev pub invariant-loop-row : goal.invariant-loop-row
invariant-loop-row l = l.text.items ≡ l.initial.text.items ++ flat_map (instruction_lines l.name l.device) (take l.row-index l.row-items)
