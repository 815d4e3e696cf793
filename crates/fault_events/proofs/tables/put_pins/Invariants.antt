use Rattle.std.proofs.Common.{◌≡◌, ◌++◌, take}
use Rattle.fault_events.proofs.tables.put_pins.Given as goal

abbrev pub invariant-loop-pin : goal.invariant-loop-pin
invariant-loop-pin l = l.pins.items ≡ l.fn.pins.items ++ take l.pin-index l.more
