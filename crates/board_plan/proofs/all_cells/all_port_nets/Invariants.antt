use Rattle.std.proofs.Common.{◌≤◌, drop, length, map}
use Rattle.board_plan.specs.AllCellNets.{HaveNets, lists_of}
use Rattle.board_plan.specs.View.{member as planned_member, net as planned_net}
use Rattle.board_plan.proofs.all_cells.all_port_nets.Given as goal

abbrev pub invariant-loop-net : goal.invariant-loop-net
invariant-loop-net l = record {
  below : l.net ≤ length l.nets;
  have : HaveNets l.net (map planned_member l.devices) (drop l.net (map planned_net l.nets)) (lists_of l.tables.items);
}

abbrev pub decreases-loop-net : goal.decreases-loop-net
decreases-loop-net l = l.net
