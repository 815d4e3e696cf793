use Rattle.board_plan.specs.AllCellNets.{lists_of}
use Rattle.board_plan.specs.View.{member as planned_member}
use Rattle.std.proofs.Common.{map}
use Rattle.board_chips.specs.Planning.{HaveNumbers}
use Rattle.board_chips.proofs.planning.pin_numbers.Given as goal

abbrev pub invariant-loop-number : goal.invariant-loop-number
invariant-loop-number l = HaveNumbers (map planned_member l.devices) l.pins l.number (lists_of l.tables.items)
