use Rattle.std.proofs.Common.{◌≡◌, ◌++◌, List, length, map}
use Rattle.svf_programs.specs.Sizes.{program_of}
use Rattle.board_plan.specs.Planned.{all_pins}
use Rattle.board_plan.specs.View.{wiring}
use Rattle.fault_events.specs.Captures.{AreLeft, Noted, captures, steps_left}
use Rattle.fault_serving.specs.Planes.{AreBlocksOf}
use Rattle.fault_serving.proofs.serving.planes_of.Given as goal

-- the captures so far are put into words
abbrev pub invariant-rounds : goal.invariant-rounds
invariant-rounds l =
    let w = wiring l.plan in
    record {
      done : List Noted;
      rest : List Noted;
      all : captures (program_of l.program) w ≡ done ++ rest;
      leaves : AreLeft rest (all_pins w.nets) l.play;
      words : AreBlocksOf w.nets done (map (λ b. b.items) l.blocks.items);
    }

abbrev pub decreases-rounds : goal.decreases-rounds
decreases-rounds l = length (steps_left l.play)
