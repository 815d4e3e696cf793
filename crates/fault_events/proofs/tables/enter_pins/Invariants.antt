use Rattle.std.proofs.Common.{◌≡◌, drop}
use Rattle.fault_events.specs.Tables.{entered}
use Rattle.fault_events.proofs.tables.enter_pins.Given as goal

abbrev pub invariant-loop-n : goal.invariant-loop-n
invariant-loop-n l = entered l.device l.n (drop l.n l.pins) l.table ≡ entered l.device 0 l.pins l.fn.table
