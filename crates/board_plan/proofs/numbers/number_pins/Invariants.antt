use Rattle.std.proofs.Common.{◌≡◌, ◌++◌, length, take}
use Rattle.std.specs.List.{range_with_len}
use Rattle.board_plan.proofs.numbers.number_pins.Given as goal

abbrev pub invariant-loop-pin : goal.invariant-loop-pin
invariant-loop-pin l = record {
  numbers : l.numbers.items ≡ range_with_len (length l.initial.pins.items) l.pin-index;
  pins : l.pins.items ≡ l.initial.pins.items ++ take l.pin-index l.more;
}
