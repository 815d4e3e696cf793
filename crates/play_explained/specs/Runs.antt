-- Runs that say why bits fail. The reasons are found on another board, on which the program is played once more.
use Rattle.std.specs.Prelude.{◌≡◌, ℕ, Bool, List, ◌++◌, Option, Some, None, Result, IsErrAnd}
use Rattle.scan_vectors.specs.declared.failures.Mismatch.{Mismatch}
use Rattle.svf_programs.specs.Steps.{Program}
use Rattle.board_description.specs.declared.whole.Untold.{Untold}
use Rattle.board_description.specs.declared.whole.Untold.TheVariants.{NoMemory}
use Rattle.board_model.specs.Chain.{BoardState}
use Rattle.jt_board.specs.Report.{report}
use Rattle.play_model.specs.ScheduleLaws.{full}
use Rattle.play_model.specs.DirectPlay.{opened_state}
use Rattle.play_model.specs.declared.ending.Ending.{Ending}
use Rattle.play_model.specs.declared.ending.Ending.TheVariants.{Fail}
use Rattle.play_model.specs.declared.kind.Kind.{Kind}
use Rattle.jt_player.specs.Kinds.{ending_in, found_in}
use Rattle.jt_player.specs.Running.{Run, note, played_run}
use Rattle.play_explained.specs.Explaining.{explained_on}
use Rattle.play_explained.specs.Lines.{explained_lines, lines_on_board}

-- why bits of a program fail on a board, the first that a play of this kind lists
abbrev pub why_on : Kind → Program → BoardState → Mismatch → List ℕ
why_on kind program before f =
    let opened = opened_state before in
    lines_on_board opened.nets opened.members (explained_on kind program before) f

-- a program was played, and its failing bits are explained on the other board: but for these lines all is as without
abbrev pub explained_run : Kind → Bool → List ℕ → Program → (before other : BoardState) → Run
explained_run kind bytes text program before other =
    let told = explained_lines text (why_on kind program other) kind (ending_in kind program before)
    (found_in kind program before) in
    record (played_run kind bytes program before) {
      out = note kind bytes program before ++ told ++ report (full kind program.steps before).board;
    }

-- The board on which reasons are looked for, where a play that ended so has any to tell.
abbrev pub other_for : Ending → BoardState → Option BoardState
other_for (Fail command part bit) before = Some before
other_for _ before = None

-- a run was refused for want of memory
abbrev pub LacksMemory : Result ℕ Untold → Type 0
LacksMemory result = IsErrAnd result (λ e. e ≡ NoMemory)
