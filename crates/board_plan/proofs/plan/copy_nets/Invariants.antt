use Rattle.std.proofs.Common.{◌≡◌, ◌++◌, drop, map}
use Rattle.board_plan.specs.View.{net as planned_net}
use Rattle.board_plan.proofs.plan.copy_nets.Given as goal

-- the nets so far, with those to come, are all
abbrev pub invariant-loop-net : goal.invariant-loop-net
invariant-loop-net l = map planned_net l.copies.items ++ map planned_net (drop l.net-index l.nets) ≡ map planned_net l.nets
