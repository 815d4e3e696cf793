use Rattle.std.proofs.Common.{◌≡◌, ◌++◌, map, take}
use Rattle.board_plan.specs.View.{net as planned_net}
use Rattle.fault_events.specs.Captures as captures
use Rattle.fault_events.specs.Nets.{seen, with_nets_noted}
use Rattle.fault_events.proofs.nets.put_net_captures.Given as goal

abbrev pub invariant-loop-capture : goal.invariant-loop-capture
invariant-loop-capture l =
    map seen l.all.items
    ≡ map seen l.initial.all.items ++ map (λ c. with_nets_noted (map planned_net l.nets) (captures.seen c)) (take l.capture-index l.list)
