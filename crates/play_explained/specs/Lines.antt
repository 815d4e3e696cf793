-- The lines of a play with those that say why its bits fail.
use Rattle.std.specs.Prelude.{ℕ, ◌==◌, ◌&&◌, Bool, List, [], ◌∷◌, ◌++◌, find, flat_map, Option, None, option_map}
use Rattle.std.specs.Prelude.{unwrap_or}
use Rattle.pin_nets.specs.Wired.{Net}
use Rattle.scan_vectors.specs.declared.failures.Mismatch.{Mismatch}
use Rattle.scan_vectors.specs.Failures.{Found}
use Rattle.svf_programs.specs.Steps.{Numbered}
use Rattle.board_model.specs.Cells.{Member}
use Rattle.board_model.specs.Chain.{members}
use Rattle.play_model.specs.Endings.{verdict_line}
use Rattle.play_model.specs.declared.ending.Ending.{Ending}
use Rattle.play_model.specs.declared.ending.Ending.TheVariants.{Fail, Lost, BadAnswer}
use Rattle.play_model.specs.declared.kind.Kind.{Kind}
use Rattle.play_model.specs.declared.kind.Kind.TheVariants.{Stops, PlaysOn}
use Rattle.output_words.specs.Lines.{position_line, total_line}
use Rattle.jt_player.specs.Showing.{mismatch_line}
use Rattle.refusal_places.specs.Starts.{statement_position}
use Rattle.output_words.specs.declared.lines.Position.{Position}
use Rattle.board_reasons.specs.Lines.{wanted_line}
use Rattle.board_reasons.specs.Reasons.{is_same_part, reason_lines}
use Rattle.board_reasons.specs.declared.origins.Reason.{Reason}
use Rattle.play_explained.specs.declared.explaining.Explained.{Explained}
use Rattle.play_explained.specs.declared.telling.Known.{Known}
use Rattle.play_explained.specs.declared.telling.Known.TheVariants.{OnBoard, InProgram}
use Rattle.play_explained.specs.Wanted.{wanted_of}

-- where a statement starts, if it has a place
abbrev pub at_line : Option Position → List ℕ
at_line position = unwrap_or (option_map position_line position) []

abbrev pub is_same : Mismatch → Mismatch → Bool
is_same f g = f.command == g.command && (is_same_part f.part g.part && f.bit == g.bit)

abbrev pub is_of : Mismatch → Explained → Bool
is_of f e = is_same e.failure f

-- why a bit failed, by those that are explained
abbrev pub reason_of : List Explained → Mismatch → Option Reason
reason_of explained f = option_map (λ (e : Explained). e.reason) (find (is_of f) explained)

-- what was wanted of a bit, and where the bit that came had stood, where a reason was found
abbrev pub lines_found : List Net → List Member → Option Reason → List ℕ
lines_found nets ms found = unwrap_or (option_map (reason_lines nets ms) found) []

abbrev pub lines_on_board : List Net → List Member → List Explained → Mismatch → List ℕ
lines_on_board nets ms explained f = lines_found nets ms (reason_of explained f)

-- what was wanted of a failing bit, where the board is not known
abbrev pub lines_in_program : List Numbered → Mismatch → List ℕ
lines_in_program steps f = wanted_line (wanted_of steps f)

abbrev pub lines_known : Known → Mismatch → List ℕ
lines_known (OnBoard chain explained) f = lines_on_board chain.now.nets (members chain.now.chips) explained.now f
lines_known (InProgram program) f = lines_in_program program.now.steps f

-- a failing bit: its own line, where its statement starts, and why it failed
abbrev pub lines_of_failure : (why : Mismatch → List ℕ) → Option Position → Mismatch → List ℕ
lines_of_failure why position f = mismatch_line f ++ (at_line position ++ why f)

-- where the statement starts in which a play was lost or got a byte that is no answer, if it has a place
abbrev pub stopped_at : (text : List ℕ) → Ending → Option Position
stopped_at text (Lost command) = statement_position text command
stopped_at text (BadAnswer command byte) = statement_position text command
stopped_at text _ = None

-- how a play ended in which no bit failed, and where
abbrev pub ended_lines : (text : List ℕ) → Ending → List ℕ
ended_lines text ending = verdict_line ending ++ at_line (stopped_at text ending)

module _ (text : List ℕ) (why : Mismatch → List ℕ) where
  abbrev pub failure_lines : Mismatch → List ℕ
  failure_lines f = lines_of_failure why (statement_position text f.command) f

  -- As a play tells without them how it ended and what it found, behind the line of each failing bit why, and behind
  -- that of a play that was lost or got a bad answer where.
  abbrev pub explained_lines : Kind → Ending → Found → List ℕ
  explained_lines PlaysOn (Fail command part bit) found = flat_map failure_lines found.list ++ total_line found.total
  explained_lines Stops (Fail command part bit) found =
      failure_lines (record { command = command; part = part; bit = bit })
  explained_lines kind ending found = ended_lines text ending
