-- A run of the player over a text: what it tells, its exit status, and the board that it leaves.
use Rattle.std.specs.Prelude.{◌≡◌, ◌↔◌, ◌⊎◌, Bool, true, false, ℕ, List, [], ◌++◌, codes, Option, Result, IsErr, IfOk}
use Rattle.std.specs.Prelude.{OnOk}
use Rattle.std.specs.Io.KnownBytes.{Appends}
use Rattle.byte_streams.specs.Counts.{CountedView}
use Rattle.byte_streams.specs.Writes.{AppendsFront, WritesAll}
use Rattle.byte_streams.specs.declared.counting.Broken.{Broken}
use Rattle.output_words.specs.declared.status.Status.TheVariants as exits
use Rattle.output_words.specs.Statuses.{number}
use Rattle.svf_words.specs.declared.fault.SvfFault.{SvfFault}
use Rattle.svf_programs.specs.Steps.{Program}
use Rattle.board_model.specs.Chain.{BoardState}
use Rattle.play_direct.specs.LeftOut.{left_out_lines}
use Rattle.play_direct.specs.Report.{report}
use Rattle.play_model.specs.ScheduleLaws.{bytes_of_full_play, full}
use Rattle.play_model.specs.Endings.{status_of}
use Rattle.play_model.specs.declared.kind.Kind.{Kind}
use Rattle.play_direct.specs.Accepting.{Accepts, Refuses}
use Rattle.jt_player.specs.Kinds.{MeansAsPlayed, ending_in, found_in}
use Rattle.jt_player.specs.Showing.{accepted_line, ending_lines, refusal_line}

-- what a play tells first: the bytes that were sent, where they are asked for
abbrev pub note : Kind → Bool → Program → BoardState → List ℕ
note kind true program before = codes "bytes " ++ bytes_of_full_play kind program.steps before ++ codes "\n"
note kind false program before = []

-- what a run tells its output and its errors, its exit status, and the board that it leaves
pub record Run : Type 0 where
  pub out : List ℕ
  pub err : List ℕ
  pub status : ℕ
  pub board : BoardState

-- A program was played: its bytes where they are asked for, how it ended, and the report of the board.
abbrev pub played_run : Kind → Bool → Program → BoardState → Run
played_run kind bytes program before =
    let ending = ending_in kind program before in
    let board = (full kind program.steps before).board in record {
      out = note kind bytes program before ++ ending_lines kind ending (found_in kind program before) ++ report board;
      err = [];
      status = status_of ending;
      board = board;
    }

-- the text was refused
abbrev pub refused_run : SvfFault → BoardState → Run
refused_run fault before = record { out = []; err = refusal_line fault; status = number exits.Refused; board = before }

-- memory ran out
abbrev pub memory_run : BoardState → Run
memory_run before = record { out = []; err = codes "memory\n"; status = number exits.NoMemory; board = before }

-- The runs of a text on a board: its program, played as it means over whole registers; its refusal; or want of memory.
pub data IsRunOf (kind : Kind) (text : List ℕ) (bytes : Bool) (before : BoardState) : Run → Type 0 where
  played : (program : Program) → Accepts text program → MeansAsPlayed kind program before
      → IsRunOf kind text bytes before (played_run kind bytes program before)
  refused : (fault : SvfFault) → Refuses text fault → IsRunOf kind text bytes before (refused_run fault before)
  no_memory : IsRunOf kind text bytes before (memory_run before)

-- A text was checked, and is accepted as a program: it is told of, and each instruction of the board that stands for
-- BYPASS.
abbrev pub accepted_run : Program → BoardState → Run
accepted_run program before =
    record {
      out = accepted_line program ++ left_out_lines before;
      err = [];
      status = number exits.Pass;
      board = before;
    }

-- The checks of a text: its program, which is told of and not played; its refusal; or want of memory.
pub data IsCheckOf (text : List ℕ) (before : BoardState) : Run → Type 0 where
  accepted : (program : Program) → Accepts text program → IsCheckOf text before (accepted_run program before)
  refused_check : (fault : SvfFault) → Refuses text fault → IsCheckOf text before (refused_run fault before)
  no_memory_check : IsCheckOf text before (memory_run before)

-- A writer was told these bytes, and the answer is this status.
pub record Tells {E : Type 0} (errors : E → Option (List ℕ)) (err err_after : CountedView E) (bytes : List ℕ)
    (status : ℕ) (result : Result ℕ Broken) : Type 0 where
  pub writes : WritesAll errors err err_after bytes result
  pub is_status : IfOk result (λ s. s ≡ status)

-- What became of a run, over two counted writers: on Ok each was told all that it is owed, with the run's status and
-- board; on Err, exactly where one of them was lost, each was told a front part of it, and the board is as it was or as
-- the run leaves it.
pub record Happens {W E : Type 0} (contents : W → Option (List ℕ)) (errors : E → Option (List ℕ)) (run : Run)
    (before after : BoardState)
    (out out_after : CountedView W) (err err_after : CountedView E) (result : Result ℕ Broken) : Type 0 where
  pub status : IfOk result (λ s. s ≡ run.status)
  pub broken : IsErr result ↔ (out_after.failures ≡ 1) ⊎ (err_after.failures ≡ 1)
  pub unbroken : OnOk result ((out_after.failures ≡ 0) × (err_after.failures ≡ 0))
  pub out_whole : OnOk result (Appends (contents out.inner) (contents out_after.inner) run.out)
  pub out_front : AppendsFront (contents out.inner) (contents out_after.inner) run.out
  pub err_whole : OnOk result (Appends (errors err.inner) (errors err_after.inner) run.err)
  pub err_front : AppendsFront (errors err.inner) (errors err_after.inner) run.err
  pub left : OnOk result (after ≡ run.board)
  pub board : (after ≡ before) ⊎ (after ≡ run.board)
