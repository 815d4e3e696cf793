-- One play of the good board serves all faults: as long as the same bits stay on a board with other nets, each of its
-- steps is judged from the good board's state before that step.
use Rattle.std.specs.Prelude.{⊤, ◌≡◌, List, [], ◌∷◌, Some, None}
use Rattle.svf_programs.specs.Legal.{IsLegalProgram}
use Rattle.svf_programs.specs.Steps.{Numbered, Program}
use Rattle.pin_nets.specs.Wired.{Net}
use Rattle.board_plan.specs.Planned.{Wiring}
use Rattle.board_model.specs.Whole.{AtRest}
use Rattle.play_direct.specs.Made.{IsSoundWiring, board_of}
use Rattle.play_model.specs.declared.ending.Ending.{Ending}
use Rattle.play_model.specs.declared.ending.Ending.TheVariants.{Pass, Fail}
use Rattle.play_model.specs.DirectPlay.{opened_state}
use Rattle.play_model.specs.Meaning.{after_step, failure, outcome}
use Rattle.board_faults.specs.declared.kinds.Way.{Way}
use Rattle.board_faults.specs.Faults.{with_way}
use Rattle.board_faults.specs.Judging.{ending_with}
use Rattle.board_faults.specs.Staying.{staying, with_nets}

-- Along the good board's states the same bits stay with the other nets, up to the first step that fails with these:
-- what stays of that step, and of those behind it, does not matter.
abbrev pub IsAlikeAlong : List Numbered → AtRest → List Net → Type 0
IsAlikeAlong [] m nets = ⊤
IsAlikeAlong (s ∷ ss) m nets = failure s.what (with_nets nets m) ≡ None
    → (staying s.what m ≡ staying s.what (with_nets nets m)) × IsAlikeAlong ss (after_step s.what m) nets

-- the first step that fails with the other nets, each from the good board's state before it
abbrev pub first_failure : List Numbered → AtRest → List Net → Ending
first_failure [] m nets = Pass
first_failure (s ∷ ss) m nets =
    let rest = first_failure ss (after_step s.what m) nets in
    elim (failure s.what (with_nets nets m)) [ None ↦ rest | Some f ↦ Fail s.number f.0 f.1 ]

-- the law, of programs from whatever state
abbrev pub OneRunServesOtherNets : Type 0
OneRunServesOtherNets = (steps : List Numbered) (m : AtRest) (nets : List Net) → IsAlikeAlong steps m nets
    → (outcome steps (with_nets nets m)).ending ≡ first_failure steps m nets

-- the same of plays from power-up: whatever the nets are, the opening leaves the same registers
abbrev pub OnePlayServesAllFaults : Type 0
OnePlayServesAllFaults = (program : Program) → IsLegalProgram program.steps → (w : Wiring) → IsSoundWiring w
    → (way : Way) → IsAlikeAlong program.steps (opened_state (board_of w)) (with_way way w.nets)
    → ending_with program w way ≡ first_failure program.steps (opened_state (board_of w)) (with_way way w.nets)
