use Rattle.std.proofs.Common.{◌≡◌, ◌≤◌, ◌+◌, ◌*◌, ◌^◌, drop, map}
use Rattle.board_plan.specs.View.{member as planned_member}
use Rattle.board_description.specs.Described.{boundary_length, total}
use Rattle.board_description.proofs.nets.boundary_bits.Given as goal

abbrev pub invariant-loop-device : goal.invariant-loop-device
invariant-loop-device l = record {
  all : l.bits + total boundary_length (map planned_member (drop l.device-index l.devices)) ≡ total boundary_length (map planned_member l.devices);
  small : l.bits ≤ l.device-index * 2 ^ 64;
}
