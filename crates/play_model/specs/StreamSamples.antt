-- Two scans of one bit that fail, over two pipes, one byte each way.
use Rattle.std.specs.Prelude.{◌≡◌, true, ℕ, [], ◌∷◌, length, Some}
use Rattle.scan_vectors.specs.declared.part.Part.TheVariants.{Data}
use Rattle.play_model.specs.declared.ending.Ending.TheVariants.{BadAnswer, Fail}
use Rattle.play_model.specs.Events.{World, empty_pipes, run}
use Rattle.bitbang.specs.Steps.{Program}
use Rattle.play_model.specs.Fair.{one_each}
use Rattle.play_model.specs.declared.kind.Kind.{Kind}
use Rattle.play_model.specs.declared.kind.Kind.TheVariants.{Stops, PlaysOn}
use Rattle.play_model.specs.ScheduleSamples.{sample, two_scans}
use Rattle.play_model.specs.Streams.{StreamState, ending_of_stream, new_stream, hear_bytes, owed, side, answers_taken}
use Rattle.play_model.specs.Streams.{bytes_to_send, working}

abbrev pub program : Program
program = record { steps = two_scans; statements = 2 }

abbrev pub after_90_events : Kind → (window : ℕ) → World StreamState
after_90_events kind window = run (side window) 3 1 (one_each 90) (empty_pipes (new_stream kind program) sample)

-- all that may be sent before the first answer was given out
abbrev pub asked : StreamState
asked = record (new_stream Stops program) { given = length (bytes_to_send 256 (new_stream Stops program)) }

pub record SamplesCompute : Type 0 where
  pub quit : (after_90_events PlaysOn 256).quit ≡ true
  pub both : (after_90_events PlaysOn 256).player.found.total ≡ 2
  pub answered : (after_90_events PlaysOn 256).player.answered ≡ 2
  pub first : ending_of_stream 256 (after_90_events PlaysOn 256).player ≡ Some (Fail 1 Data 0)
  pub stopped : (after_90_events Stops 256).quit ≡ true
  pub one : (after_90_events Stops 256).player.answered ≡ 1
  pub verdict : ending_of_stream 256 (after_90_events Stops 256).player ≡ Some (Fail 1 Data 0)
  pub narrow : (after_90_events Stops 1).player.answered ≡ 1
  -- one answer is owed; a further one is not taken, and a byte that is no answer ends it
  pub owes : owed 256 asked ≡ 1
  pub takes : answers_taken 256 asked (49 ∷ 49 ∷ []) ≡ 49 ∷ []
  pub works : working asked ≡ 1
  pub bad : ending_of_stream 256 (hear_bytes (answers_taken 256 asked (50 ∷ [])) asked) ≡ Some (BadAnswer 1 50)
