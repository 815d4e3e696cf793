use Rattle.std.proofs.Common.{◌≡◌, length, map, take}
use Rattle.board_plan.specs.View.{member as planned_member, net as planned_net}
use Rattle.board_chips.specs.Building.{wired_chips_of}
use Rattle.board_chips.proofs.build.all_chips.Given as goal

abbrev pub invariant-loop-cells : goal.invariant-loop-cells
invariant-loop-cells l = l.chips.items ≡ take (length l.yielded) (wired_chips_of (map planned_net l.fn.nets) 0 (map planned_member l.fn.devices))
