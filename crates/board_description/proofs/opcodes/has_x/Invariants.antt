use Rattle.std.proofs.Common.{◌≡◌, false, is_none, take}
use Rattle.std.specs.List.{list_any}
use Rattle.board_description.proofs.opcodes.has_x.Given as goal

abbrev pub invariant-loop-bit : goal.invariant-loop-bit
invariant-loop-bit l = list_any is_none (take l.bit-index l.pattern) ≡ false
