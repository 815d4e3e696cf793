use Rattle.std.proofs.Common.{◌≡◌, ◌++◌, drop, map}
use Rattle.board_plan.specs.View.{net as planned_net}
use Rattle.fault_events.specs.Nets.{nets_noted}
use Rattle.fault_events.proofs.nets.net_notes.Given as goal

abbrev pub invariant-loop-net : goal.invariant-loop-net
invariant-loop-net l =
    l.all.items ++ nets_noted (map planned_net (drop l.net-index l.nets)) l.rest ≡ nets_noted (map planned_net l.nets) l.notes
