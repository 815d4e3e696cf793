use Rattle.std.proofs.Common.{◌≡◌, Some, map, slice_get, take}
use Rattle.board_plan.specs.View.{member as planned_member, net as planned_net}
use Rattle.board_plan.specs.Planned as planned
use Rattle.board_chips.specs.Planning.{strings_of}
use Rattle.board_chips.specs.Strings.{AreStrung, placed_of}
use Rattle.board_chips.proofs.planning.wired_strings.Given as goal

abbrev pub invariant-loop-place : goal.invariant-loop-place
invariant-loop-place l = record {
  strung : AreStrung (map planned_net l.nets) (map (λ (m : planned.Member). m.device.cells) (map planned_member l.devices)) l.strings.items;
  placed : map (λ s. Some (placed_of s)) l.strings.items ≡ map (slice_get (strings_of (map planned_member l.devices))) (take l.place-index l.order);
}
