use Rattle.std.proofs.Common.{◌≡◌, ◌++◌, map, take, drop}
use Rattle.board_plan.specs.Planned.{all_pins}
use Rattle.board_model.specs.Nets.{pin_drive}
use Rattle.board_chips.specs.WiredChips.{held_of}
use Rattle.board_chips.proofs.wires.refresh.Given as goal

abbrev pub invariant-loop-k : goal.invariant-loop-k
invariant-loop-k l = record {
  nets : l.wiring.nets ≡ l.initial.wiring.nets;
  drives : l.wiring.drives ≡ map (pin_drive (map held_of l.chips)) (take l.k (all_pins l.initial.wiring.nets)) ++ drop l.k l.initial.wiring.drives;
}
