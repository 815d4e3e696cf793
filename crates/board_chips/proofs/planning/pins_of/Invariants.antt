use Rattle.std.proofs.Common.{◌≡◌, map, take}
use Rattle.board_plan.specs.Planned.{all_pins}
use Rattle.board_plan.specs.View.{net as planned_net}
use Rattle.board_chips.proofs.planning.pins_of.Given as goal

abbrev pub invariant-loop-net : goal.invariant-loop-net
invariant-loop-net l = l.pins.items ≡ all_pins (map planned_net (take l.net-index l.nets))
