use Rattle.std.proofs.Common.{◌≡◌, true, take}
use Rattle.std.specs.List.{list_all}
use Rattle.board_description.specs.Covered.{is_one}
use Rattle.board_description.proofs.opcodes.all_ones.Given as goal

abbrev pub invariant-loop-bit : goal.invariant-loop-bit
invariant-loop-bit l = list_all is_one (take l.bit-index l.pattern) ≡ true
