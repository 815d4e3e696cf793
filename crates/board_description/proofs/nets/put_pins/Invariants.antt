use Rattle.std.proofs.Common.{◌≡◌, ◌++◌, map, take}
use Rattle.std.specs.Prelude.{flat_map}
use Rattle.board_plan.specs.View.{member as planned_member}
use Rattle.board_description.specs.Described.{pin_words}
use Rattle.board_description.proofs.nets.put_pins.Given as goal

abbrev pub invariant-loop-pin : goal.invariant-loop-pin
invariant-loop-pin l = l.text.items ≡ l.initial.text.items ++ flat_map (pin_words (map planned_member l.devices)) (take l.pin-index l.pins)
