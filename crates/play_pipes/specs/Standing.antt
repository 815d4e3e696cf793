-- How a play over two pipes stands.
use Rattle.std.specs.Prelude.{Bool, ◌||◌, ◌-◌, ◌^◌, min, Option, Some, None, if◌then◌else◌}
use Rattle.play_model.specs.declared.ending.Ending.{Ending}
use Rattle.play_model.specs.declared.ending.Ending.TheVariants.{Lost}
use Rattle.play_model.specs.Events.{World}
use Rattle.play_model.specs.Streams as stream
use Rattle.play_model.specs.Streams.{StreamState}
use Rattle.player.specs.Window.{window}

-- the play has ended or was lost
abbrev pub is_over : World StreamState → Bool
is_over w = w.quit || w.lost

-- How a play stands: lost at the command in work, or once the board took `Q` with what the player tells of its end.
abbrev pub ended_of : World StreamState → Option Ending
ended_of w =
    if w.lost then Some (Lost (min (stream.working w.player) (2 ^ 64 - 1)))
    else if w.quit then stream.ending_of_stream window w.player else None
