use Rattle.std.proofs.Common.{◌≡◌, map, take}
use Rattle.pin_nets.specs.Building.{net_value}
use Rattle.board_plan.specs.Planned.{all_pins}
use Rattle.board_plan.specs.View.{net as planned_net}
use Rattle.board_plan.specs.PinNumbers.{with_pin_numbers}
use Rattle.board_plan.proofs.numbers.number_nets.Given as goal

abbrev pub invariant-loop-net : goal.invariant-loop-net
invariant-loop-net l = record {
  nets : map net_value l.specs.items ≡ with_pin_numbers 0 (map planned_net (take l.net-index l.nets));
  pins : l.pins.items ≡ all_pins (map planned_net (take l.net-index l.nets));
}
