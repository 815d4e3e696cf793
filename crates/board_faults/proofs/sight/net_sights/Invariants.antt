use Rattle.std.proofs.Common.{◌≡◌, map, take}
use Rattle.board_plan.specs.View.{net as planned_net}
use Rattle.board_faults.specs.Sights.{net_sight}
use Rattle.board_faults.proofs.sight.net_sights.Given as goal

abbrev pub invariant-loop-net : goal.invariant-loop-net
invariant-loop-net l =
    l.all.items ≡ map (net_sight (map (λ t. t.items) l.ports)) (map planned_net (take l.net-index l.nets))
