-- Playing on until the end.
use Rattle.std.specs.Prelude.{◌≡◌, true, ◌<◌, List}
use Rattle.board_model.specs.Chain.{BoardState}
use Rattle.play_model.specs.Events.{Event, empty_pipes, run}
use Rattle.play_model.specs.Streams.{StreamState, new_stream}
use Rattle.play_model.specs.Fair.{HasNoLose}
use Rattle.play_pipes.specs.Joining.{JoinedState, side}
use Rattle.play_pipes.specs.Standing.{is_over}

-- a fresh player of the same kind and program
abbrev pub afresh : StreamState → StreamState
afresh player = new_stream player.kind player.program

-- Some events led here from a fresh player and a board with empty pipes; this is what the type keeps.
pub record IsReached (s : JoinedState) : Type 0 where
  pub start : BoardState
  pub events : List Event
  pub down_room : 0 < s.down_room
  pub up_room : 0 < s.up_room
  pub world : s.world ≡ run side s.down_room s.up_room events (empty_pipes (afresh s.world.player) start)

-- Events without a loss after which the play is over.
pub record IsFinished (before after : JoinedState) : Type 0 where
  pub events : List Event
  pub kept : HasNoLose events
  pub state : after ≡ record before { world = run side before.down_room before.up_room events before.world }
  pub over : is_over after.world ≡ true
