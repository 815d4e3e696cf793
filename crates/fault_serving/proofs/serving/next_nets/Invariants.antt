use Rattle.std.proofs.Common.{◌≡◌, ◌<◌, ◌≤◌, ◌++◌, [], List, length, map}
use Rattle.pin_nets.specs.declared.Pin.{Pin}
use Rattle.board_plan.specs.View.{net as planned_net}
use Rattle.fault_events.specs.Captures.{AreLeft, IsUnderWay, Noted, steps_left}
use Rattle.fault_events.specs.Nets.{seen, with_nets_noted}
use Rattle.fault_serving.proofs.serving.next_nets.Given as goal

-- what is noted of nets so far is of the first captures
abbrev pub invariant-rounds : goal.invariant-rounds
invariant-rounds l =
    let nets = map planned_net l.nets in
    record {
      way : IsUnderWay l.play;
      noted : (cs : List Noted) (pins : List Pin) → AreLeft cs pins l.fn.play → (first : List Noted) × (rest : List Noted)
          × (cs ≡ first ++ rest) × (map seen l.list.items ≡ map (with_nets_noted nets) first) × AreLeft rest pins l.play;
      fewer : (l.list.items ≡ [] → ⊥) → length (steps_left l.play) < length (steps_left l.fn.play);
      most : length (steps_left l.play) ≤ length (steps_left l.fn.play);
    }

abbrev pub decreases-rounds : goal.decreases-rounds
decreases-rounds l = length (steps_left l.play)
