use Rattle.std.proofs.Common.{◌≡◌, drop, map}
use Rattle.board_plan.specs.View.{net as planned_net}
use Rattle.board_faults.specs.declared.kinds.Way.TheVariants as way
use Rattle.fault_events.specs.Captures.{seen}
use Rattle.fault_events.specs.Endings.{ending_noted}
use Rattle.fault_events.proofs.ways.open_ending.Given as goal

abbrev pub invariant-loop-capture : goal.invariant-loop-capture
invariant-loop-capture l =
    ending_noted (map planned_net l.nets) (way.Open l.net l.pin l.bit) (map seen l.list)
    ≡ ending_noted (map planned_net l.nets) (way.Open l.net l.pin l.bit) (map seen (drop l.capture-index l.list))
