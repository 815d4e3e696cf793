use Rattle.std.proofs.Common.{◌≡◌, ◌++◌, drop, map}
use Rattle.board_plan.specs.Planned.{all_pins}
use Rattle.board_plan.specs.View.{net as planned_net}
use Rattle.fault_events.proofs.tables.pins_of.Given as goal

abbrev pub invariant-loop-net : goal.invariant-loop-net
invariant-loop-net l = l.pins.items ++ all_pins (map planned_net (drop l.net-index l.nets)) ≡ all_pins (map planned_net l.nets)
