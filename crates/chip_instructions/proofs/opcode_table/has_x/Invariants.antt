use Rattle.std.proofs.Common.{◌≡◌, false, take, is_none}
use Rattle.std.specs.List.{list_any}
use Rattle.chip_instructions.proofs.opcode_table.has_x.Given as goal

abbrev pub invariant-loop-digit : goal.invariant-loop-digit
invariant-loop-digit l = list_any is_none (take l.digit-index l.digit-items) ≡ false
