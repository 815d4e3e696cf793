use Rattle.std.proofs.Common.{◌≡◌, ◌≤◌, ◌*◌, ◌^◌, ◌++◌, map, drop}
use Rattle.board_plan.specs.View.{member as planned_member}
use Rattle.board_description.specs.Described.{place_lines}
use Rattle.board_description.proofs.nets.put_places.Given as goal

-- the lines so far, with those to come, are all
abbrev pub invariant-loop-device : goal.invariant-loop-device
invariant-loop-device l = record {
  all : l.text.items ++ place_lines l.instruction l.boundary (map planned_member (drop l.device-index l.devices))
      ≡ l.initial.text.items ++ place_lines 0 0 (map planned_member l.devices);
  few_instruction : l.instruction ≤ l.device-index * 2 ^ 64;
  few_boundary : l.boundary ≤ l.device-index * 2 ^ 64;
}
