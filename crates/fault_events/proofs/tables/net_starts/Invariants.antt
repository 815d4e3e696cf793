use Rattle.std.proofs.Common.{◌≡◌, ◌++◌, drop, length, map}
use Rattle.board_plan.specs.View.{net as planned_net}
use Rattle.fault_events.specs.Blocks.{starts_from, starts_of}
use Rattle.fault_events.proofs.tables.net_starts.Given as goal

abbrev pub invariant-loop-net : goal.invariant-loop-net
invariant-loop-net l =
    l.starts.items ++ starts_from (length l.pins.items) (map planned_net (drop l.net-index l.nets)) ≡ starts_of (map planned_net l.nets)
