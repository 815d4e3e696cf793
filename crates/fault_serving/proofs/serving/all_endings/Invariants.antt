use Rattle.std.proofs.Common.{◌≡◌, ◌++◌, List, length}
use Rattle.svf_programs.specs.Sizes.{program_of}
use Rattle.board_plan.specs.Planned.{all_pins}
use Rattle.board_plan.specs.View.{wiring}
use Rattle.fault_events.specs.Captures.{AreLeft, Noted, captures, steps_left}
use Rattle.fault_serving.specs.Serving.{endings_by}
use Rattle.fault_serving.proofs.serving.all_endings.Given as goal

-- the captures so far are judged
abbrev pub invariant-rounds : goal.invariant-rounds
invariant-rounds l =
    let w = wiring l.plan in
    record {
      done : List Noted;
      rest : List Noted;
      all : captures (program_of l.program) w ≡ done ++ rest;
      leaves : AreLeft rest (all_pins w.nets) l.play;
      judged : l.endings.items ≡ endings_by w.nets done l.ways;
    }

abbrev pub decreases-rounds : goal.decreases-rounds
decreases-rounds l = length (steps_left l.play)
