-- What is invisible is missed by every program: the play on the board with it ends as on the board without.
use Rattle.std.specs.Prelude.{◌≡◌}
use Rattle.svf_programs.specs.Legal.{IsLegalProgram}
use Rattle.svf_programs.specs.Steps.{Program}
use Rattle.board_plan.specs.Planned.{Wiring}
use Rattle.play_direct.specs.Made.{IsSoundWiring, board_of}
use Rattle.play_model.specs.Play.{play}
use Rattle.board_faults.specs.declared.kinds.Way.{Way}
use Rattle.board_faults.specs.Judging.{ending_with}
use Rattle.board_faults.specs.Sight.{IsInvisible}

-- the law, of every legal program and every board whose descriptions are sound
abbrev pub EveryProgramMissesWhatIsInvisible : Type 0
EveryProgramMissesWhatIsInvisible = (program : Program) → IsLegalProgram program.steps → (w : Wiring) → IsSoundWiring w
    → (way : Way) → IsInvisible w way → ending_with program w way ≡ (play program (board_of w)).ending
