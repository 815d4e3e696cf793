use Rattle.std.proofs.Common.{◌≡◌, ◌++◌, drop, map}
use Rattle.board_plan.specs.Planned.{all_pins}
use Rattle.board_chips.specs.Driving.{cells_of, driving_from, driving_of}
use Rattle.board_chips.proofs.driving.all_driving.Given as goal

abbrev pub invariant-loop-k : goal.invariant-loop-k
invariant-loop-k l = l.driving.items ++ driving_from (map cells_of l.chips) l.k (drop l.k (all_pins l.wiring.nets)) ≡ driving_of l.chips l.wiring.nets
