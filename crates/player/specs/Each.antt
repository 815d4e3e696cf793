-- Answers taken one after another.
use Rattle.std.specs.Prelude.{ℕ, List, [], ◌∷◌}
use Rattle.play_model.specs.Streams.{StreamState, answers_taken, hear_bytes}
use Rattle.player.specs.Window.{window}

-- the player after each of these was taken alone, where it was owed
abbrev pub hear_each : List ℕ → StreamState → StreamState
hear_each [] s = s
hear_each (byte ∷ bytes) s = hear_each bytes (hear_bytes (answers_taken window s (byte ∷ [])) s)
