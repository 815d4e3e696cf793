use Rattle.std.proofs.Common.{◌≡◌, map, take}
use Rattle.board_plan.specs.AllCellNets.{all_cell_nets, lists_of}
use Rattle.board_plan.specs.View.{member as planned_member, net as planned_net}
use Rattle.board_plan.proofs.all_cells.all_cell_nets.Given as goal

abbrev pub invariant-loop-place : goal.invariant-loop-place
invariant-loop-place l = lists_of l.all.items ≡ take l.place (all_cell_nets (map planned_net l.nets) 0 (map planned_member l.devices))
