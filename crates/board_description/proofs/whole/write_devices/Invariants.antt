use Rattle.std.proofs.Common.{◌≡◌, ◌≤◌, ◌++◌, ◌-◌, ℕ, List, map, drop}
use Rattle.std.specs.Io.KnownBytes.{Appends}
use Rattle.board_plan.specs.View.{member as planned_member, net as planned_net}
use Rattle.board_description.specs.Described.{device_lines, shown_file}
use Rattle.board_description.proofs.whole.write_devices.Given as goal

-- what was written, with the lines of the devices to come, is all
abbrev pub invariant-loop-place : goal.invariant-loop-place
invariant-loop-place g l = record {
  none_lost : l.out.failures ≡ 0;
  within : l.place ≤ l.count;
  sent : List ℕ;
  appends : Appends (g.W.Write.contents l.initial.out.inner) (g.W.Write.contents l.out.inner) sent;
  all : sent ++ device_lines (map planned_net l.nets) l.place (drop l.place (map shown_file l.devices)) (drop l.place (map planned_member l.devices))
      ≡ device_lines (map planned_net l.nets) 0 (map shown_file l.devices) (map planned_member l.devices);
}

abbrev pub decreases-loop-place : goal.decreases-loop-place
decreases-loop-place g l = l.count - l.place
