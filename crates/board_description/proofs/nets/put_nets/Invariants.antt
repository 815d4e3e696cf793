use Rattle.std.proofs.Common.{◌≡◌, ◌++◌, map, take}
use Rattle.std.specs.Prelude.{flat_map}
use Rattle.board_plan.specs.View.{member as planned_member, net as planned_net}
use Rattle.board_description.specs.Described.{net_line}
use Rattle.board_description.proofs.nets.put_nets.Given as goal

abbrev pub invariant-loop-net : goal.invariant-loop-net
invariant-loop-net l = l.text.items ≡ l.initial.text.items ++ flat_map (net_line (map planned_member l.plan.devices.items)) (map planned_net (take l.net-index l.plan.nets.items))
