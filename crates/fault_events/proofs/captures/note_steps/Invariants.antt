use Rattle.std.proofs.Common.{◌≡◌, ◌<◌, ◌≤◌, ◌++◌, [], length, map}
use Rattle.svf_programs.specs.Left.{left}
use Rattle.svf_programs.specs.Sound.{AllWithin}
use Rattle.board_model.specs.Chain.{members}
use Rattle.board_model.specs.Resting.{IsAtRest}
use Rattle.board_model.specs.Whole.{AtRest}
use Rattle.board_faults.specs.Resting.{IsResting}
use Rattle.fault_events.specs.Captures.{Fits, noted_by, seen}
use Rattle.fault_events.specs.Parts.{planned_parts}
use Rattle.fault_events.proofs.captures.note_steps.Given as goal

-- The board is at rest. What is noted, and behind it what the steps that are left capture from there, is what the steps
-- capture.
abbrev pub invariant-steps : goal.invariant-steps
invariant-steps l =
    let pins = l.numbers.pins.items in
    record {
      rests : IsResting l.board;
      fits : Fits (members l.board.chips) l.devices l.numbers;
      within : AllWithin (left l.steps);
      noted : (m : AtRest) → IsAtRest l.fn.board m
          → (n : AtRest) × IsAtRest l.board n × (planned_parts n.members ≡ planned_parts m.members)
          × (noted_by pins (left l.fn.steps) m ≡ map seen l.list.items ++ noted_by pins (left l.steps) n);
      fewer : (l.list.items ≡ [] → ⊥) → length (left l.steps) < length (left l.fn.steps);
      most : length (left l.steps) ≤ length (left l.fn.steps);
    }

abbrev pub decreases-steps : goal.decreases-steps
decreases-steps l = length (left l.steps)
