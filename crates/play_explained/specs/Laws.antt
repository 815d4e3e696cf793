-- What holds of the reasons of every play.
use Rattle.std.specs.Prelude.{◌≡◌, ℕ, List, [], ◌++◌, flat_map, map, None}
use Rattle.scan_vectors.specs.declared.failures.Mismatch.{Mismatch}
use Rattle.scan_vectors.specs.declared.part.Part.{Part}
use Rattle.scan_vectors.specs.Failures.{Found}
use Rattle.svf_programs.specs.Steps.{Numbered, Program}
use Rattle.board_model.specs.Chain.{BoardState}
use Rattle.board_model.specs.Whole.{AtRest}
use Rattle.jt_board.specs.InUse.{IsInUse}
use Rattle.play_model.specs.PlayingOn.{outcome_of_all}
use Rattle.play_model.specs.Endings as endings
use Rattle.play_model.specs.Endings.{verdict_line}
use Rattle.play_model.specs.declared.ending.Ending.{Ending}
use Rattle.play_model.specs.declared.ending.Ending.TheVariants.{Pass, Fail, Lost, BadAnswer}
use Rattle.play_model.specs.declared.kind.Kind.{Kind}
use Rattle.play_model.specs.declared.kind.Kind.TheVariants.{PlaysOn, Stops}
use Rattle.jt_player.specs.Accepting.{Accepts}
use Rattle.refusal_places.specs.Starts.{statement_position}
use Rattle.jt_player.specs.Kinds.{found_in}
use Rattle.output_words.specs.Lines.{total_line}
use Rattle.jt_player.specs.Showing.{ending_lines, mismatch_line}
use Rattle.board_reasons.specs.Lines as reasons
use Rattle.play_explained.specs.declared.explaining.Explained.{Explained}
use Rattle.play_explained.specs.Explaining.{explained, explained_on}
use Rattle.play_explained.specs.Lines.{at_line, explained_lines}

-- the bits that are explained are those that fail
abbrev pub EveryFailureIsExplained : Type 0
EveryFailureIsExplained =
    (steps : List Numbered) (m : AtRest)
    → map (λ (e : Explained). e.failure) (explained steps m) ≡ (outcome_of_all steps m).failures

-- Where no statement has a place and no bit a reason, the lines are those that stand without them.
abbrev pub NothingElseIsTold : Type 0
NothingElseIsTold =
    (text : List ℕ) (kind : Kind) (ending : Ending) (found : Found) → ((n : ℕ) → statement_position text n ≡ None)
    → explained_lines text (λ (f : Mismatch). []) kind ending found ≡ ending_lines kind ending found

-- The lines of how a play ended: behind that of each failing bit more, and behind that of a statement in which it was
-- lost or got a bad answer something of that.
abbrev pub ending_lines_with : (more : Mismatch → List ℕ) → (at : ℕ → List ℕ) → Kind → Ending → Found → List ℕ
ending_lines_with more at PlaysOn (Fail command part bit) found =
    flat_map (λ (f : Mismatch). mismatch_line f ++ more f) found.list ++ total_line found.total
ending_lines_with more at Stops (Fail command part bit) found =
    let f : Mismatch = record { command = command; part = part; bit = bit } in mismatch_line f ++ more f
ending_lines_with more at kind (Lost command) found = verdict_line (Lost command) ++ at command
ending_lines_with more at kind (BadAnswer command byte) found = verdict_line (BadAnswer command byte) ++ at command
ending_lines_with more at kind Pass found = verdict_line Pass

-- Of every text: more is told of each failing bit, where its statement starts and why it failed, of a statement in
-- which the play was lost or got a bad answer where it starts, and of nothing else. Without it the lines are those of a
-- play that explains nothing.
pub record ReasonsAloneAreAdded : Type 0 where
  pub added : (text : List ℕ) (why : Mismatch → List ℕ) (kind : Kind) (ending : Ending) (found : Found)
      → explained_lines text why kind ending found
      ≡ ending_lines_with (λ (f : Mismatch). at_line (statement_position text f.command) ++ why f)
      (λ (command : ℕ). at_line (statement_position text command)) kind ending found
  pub without : (kind : Kind) (ending : Ending) (found : Found)
      → ending_lines_with (λ (f : Mismatch). []) (λ (command : ℕ). []) kind ending found
      ≡ ending_lines kind ending found

-- A part of a vector has the same word in the line of a failing bit and in that of where a bit came from.
abbrev pub PartsAreCalledAlike : Type 0
PartsAreCalledAlike = (part : Part) → reasons.part_word part ≡ endings.part_word part

-- Where the other board stands as the one that is played on did, the bits that have a reason there are those that the
-- play lists, in the same order.
abbrev pub EachListedBitHasItsReason : Type 0
EachListedBitHasItsReason = (kind : Kind) (text : List ℕ) (program : Program) → Accepts text program
    → (before : BoardState) → IsInUse before
    → map (λ (e : Explained). e.failure) (explained_on kind program before) ≡ (found_in kind program before).list
