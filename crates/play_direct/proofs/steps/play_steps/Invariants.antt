use Rattle.std.proofs.Common.{◌≡◌, ◌+◌, ◌*◌, ◌<◌, ◌≤◌, ◌^◌, ℕ, List, length}
use Rattle.scan_vectors.specs.Failures.{found, most_listed, none_found, with_found}
use Rattle.svf_programs.specs.Sound.{AllWithin, vector_limit}
use Rattle.svf_programs.specs.Left.{left}
use Rattle.svf_programs.specs.Sizes.{program_of}
use Rattle.board_model.specs.Resting.{IsAtRest, board_at_rest}
use Rattle.board_model.specs.Whole.{AtRest}
use Rattle.play_model.specs.declared.kind.Kind.TheVariants.{Stops}
use Rattle.play_model.specs.DirectPlay.{opened_state}
use Rattle.play_model.specs.Play.{full_play}
use Rattle.play_model.specs.PlayingOn.{outcome_of_all}
use Rattle.play_model.specs.ScheduleLaws.{full}
use Rattle.play_direct.proofs.Turns.{GoesOn, turns_from}
use Rattle.play_direct.proofs.WholePlay.{CanPlay}
use Rattle.play_direct.proofs.steps.play_steps.Given as goal

-- The board is at rest, and from there the steps that are left may be played. With what fails in them, what was noted
-- is all that fails in the program, and a play that stops has noted nothing. What was taken is the front of the bytes
-- of the full play, before theirs.
abbrev pub invariant-loop-step : goal.invariant-loop-step
invariant-loop-step g l = record {
  m : AtRest;
  rests : IsAtRest l.board m;
  can : CanPlay (left l.step-iterator) m;
  within : AllWithin (left l.step-iterator);
  room : l.failures.total + length (left l.step-iterator) * vector_limit < 2 ^ 64;
  noted : with_found (outcome_of_all (left l.step-iterator) m).failures (found l.failures)
      ≡ with_found (outcome_of_all (program_of l.program).steps (opened_state l.fn.board)).failures none_found;
  listed : length (found l.failures).list ≤ most_listed;
  quiet : l.kind ≡ Stops → found l.failures ≡ none_found;
  sent : List ℕ;
  goes : GoesOn (full l.kind (program_of l.program).steps l.fn.board)
      (full_play (turns_from l.kind m.place (left l.step-iterator)) (board_at_rest m)) sent;
  takes : g.B.Beside.takes l.fn.beside sent l.beside;
}
