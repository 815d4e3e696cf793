use Rattle.std.proofs.Common.{map, take}
use Rattle.board_plan.specs.View.{member as planned_member}
use Rattle.fault_events.specs.Drives.{AreDriverTables}
use Rattle.fault_events.proofs.tables.driver_tables.Given as goal

abbrev pub invariant-loop-device : goal.invariant-loop-device
invariant-loop-device l = AreDriverTables (map planned_member (take l.device-index l.devices)) (map (λ t. t.items) l.tables.items)
