use Rattle.std.proofs.Common.{◌≡◌, ◌++◌, drop, map}
use Rattle.board_plan.specs.View.{member as planned_member}
use Rattle.board_faults.specs.Sights.{all_sights}
use Rattle.board_faults.proofs.sight.device_sights.Given as goal

-- those so far, with those to come, are all
abbrev pub invariant-loop-device : goal.invariant-loop-device
invariant-loop-device l =
    map (λ t. t.items) l.all.items ++ all_sights (map planned_member (drop l.device-index l.devices)) ≡ all_sights (map planned_member l.devices)
