use Rattle.std.proofs.Common.{◌≡◌, ◌++◌, List, length, take, drop}
use Rattle.pin_nets.specs.declared.Pin.{Pin}
use Rattle.board_parts.specs.Twice.{Marks, is_some_twice}
use Rattle.board_parts.proofs.twice.mark_pins.Given as goal

-- the table has the pins so far, and what is left is judged as the whole is
abbrev pub invariant-loop-pin : goal.invariant-loop-pin
invariant-loop-pin l = record {
  long : length l.seen ≡ length l.initial.seen;
  judged : (before : List Pin) → Marks l.ports before l.initial.seen → is_some_twice (before ++ take l.pin-index l.pins) (drop l.pin-index l.pins) ≡ is_some_twice before l.pins;
  added : (before : List Pin) → Marks l.ports before l.initial.seen → Marks l.ports (before ++ take l.pin-index l.pins) l.seen;
}
