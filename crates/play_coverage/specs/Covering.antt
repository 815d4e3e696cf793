-- What a program would miss on a board: what is printed, and the exit status.
use Rattle.std.specs.Prelude.{◌≡◌, Bool, ℕ, List}
use Rattle.output_words.specs.Statuses.{number}
use Rattle.svf_programs.specs.Steps.{Program}
use Rattle.board_plan.specs.Planned.{Wiring}
use Rattle.board_faults.specs.Made.{board_of}
use Rattle.play_model.specs.declared.ending.Ending.{Ending}
use Rattle.play_model.specs.declared.ending.Ending.TheVariants.{Pass, Fail, Lost, BadAnswer}
use Rattle.play_model.specs.Endings.{status_of, verdict_line}
use Rattle.play_model.specs.Play.{play}
use Rattle.board_faults.specs.declared.judging.Judged.{Judged}
use Rattle.board_faults.specs.Judging.{JudgesBoard}
use Rattle.play_coverage.specs.Contending.{contentions}
use Rattle.play_coverage.specs.Lines.{cover_lines, cover_status}

-- what is made of a program that passes on the board itself: where drivers disagree, and every fault judged by what the
-- program makes of the board with it
pub record Covers (program : Program) (w : Wiring) (listed : Bool) (out : List ℕ) (status : ℕ) : Type 0 where
  pub judged : List Judged
  pub judges : JudgesBoard program w judged
  pub lines : out ≡ cover_lines listed w (contentions program (board_of w)) judged
  pub is_status : status ≡ number (cover_status (contentions program (board_of w)) judged)

-- the verdict of one that does not pass
pub record Fails (ending : Ending) (out : List ℕ) (status : ℕ) : Type 0 where
  pub lines : out ≡ verdict_line ending
  pub is_status : status ≡ status_of ending

abbrev pub CoversFrom : Program → Wiring → (listed : Bool) → Ending → (out : List ℕ) → (status : ℕ) → Type 0
CoversFrom program w listed Pass out status = Covers program w listed out status
CoversFrom program w listed (Fail command part bit) out status = Fails (Fail command part bit) out status
CoversFrom program w listed (Lost command) out status = Fails (Lost command) out status
CoversFrom program w listed (BadAnswer command byte) out status = Fails (BadAnswer command byte) out status

-- What is printed, and the exit status: by how the program's play on the board itself ends, from power-up.
abbrev pub IsCover : Program → Wiring → (listed : Bool) → (out : List ℕ) → (status : ℕ) → Type 0
IsCover program w listed out status = CoversFrom program w listed (play program (board_of w)).ending out status
