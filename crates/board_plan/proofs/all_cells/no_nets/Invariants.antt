use Rattle.std.proofs.Common.{◌≡◌, map, take}
use Rattle.board_plan.specs.AllCellNets.{empty_tables, lists_of}
use Rattle.board_plan.specs.View.{member as planned_member}
use Rattle.board_plan.proofs.all_cells.no_nets.Given as goal

abbrev pub invariant-loop-device : goal.invariant-loop-device
invariant-loop-device l = lists_of l.tables.items ≡ empty_tables (map planned_member (take l.device-index l.devices))
