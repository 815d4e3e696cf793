use Rattle.std.proofs.Common.{◌≡◌, map, take}
use Rattle.fault_events.specs.Drives.{wire_in}
use Rattle.fault_events.proofs.tables.pin_wires.Given as goal

abbrev pub invariant-loop-pin : goal.invariant-loop-pin
invariant-loop-pin l = l.wires.items ≡ map (wire_in (map (λ t. t.items) l.drivers)) (take l.pin-index l.pins)
