-- What holds of every joined play, of either kind, after any events: it stays inside the full play, something can move
-- until it is over, few of its events move something, only a loss of the connection loses it, and then it names the
-- command in work.
use Rattle.std.specs.Prelude.{◌≡◌, ◌⊎◌, true, false, ℕ, ◌+◌, ◌*◌, ◌-◌, ◌^◌, ◌<◌, ◌≤◌, List, ◌∷◌, ◌++◌, length, drop}
use Rattle.std.specs.Prelude.{min, Some}
use Rattle.svf_programs.specs.Steps.{Program}
use Rattle.board_model.specs.Chain.{BoardState, after_bytes}
use Rattle.play_model.specs.declared.ending.Ending.TheVariants.{Lost}
use Rattle.play_model.specs.Events.{Event, Put, Serve, Take, Lose, World, bytes_moved, empty_pipes, moving, taken_over}
use Rattle.play_model.specs.declared.kind.Kind.{Kind}
use Rattle.play_model.specs.PlayingOn.{turns_for}
use Rattle.play_model.specs.Streams.{StreamState, new_stream}
use Rattle.play_model.specs.Fronts.{IsPrefix}
use Rattle.play_model.specs.InWork.{IsInWork, turns_made}
use Rattle.play_model.specs.ScheduleLaws.{bytes_of_full_play, full}
use Rattle.play_model.specs.Sides.{answers_to_bytes}
use Rattle.play_pipes.specs.Standing.{ended_of, is_over}
use Rattle.play_pipes.specs.Joining.{side}
use Rattle.play_pipes.specs.Laws.{joined_after_of}

-- the bytes that the board took over these events
abbrev pub taken_by_board : Kind → Program → BoardState → (down_room up_room : ℕ) → List Event → List ℕ
taken_by_board kind program b down_room up_room es =
    taken_over side down_room up_room es (empty_pipes (new_stream kind program) b)

-- The bytes that the board took, with those in the down pipe, are all that were given out, and a front part of the
-- full play's. Its answers to them are a front part of the full play's; those that the player did not take yet are in
-- the up pipe. The board stands where the bytes that it took lead, and no pipe holds more than its room.
pub record IsInsideTheFullPlay (kind : Kind) (program : Program) (b : BoardState) (down_room up_room : ℕ)
    (took : List ℕ) (w : World StreamState) : Type 0 where
  pub given : w.player.given ≡ length (took ++ w.down)
  pub bytes : IsPrefix (took ++ w.down) (bytes_of_full_play kind program.steps b)
  pub answers : IsPrefix (answers_to_bytes took b) (full kind program.steps b).answers
  pub counted : w.player.answered + length w.up ≡ length (answers_to_bytes took b)
  pub up : w.up ≡ drop w.player.answered (answers_to_bytes took b)
  pub board : w.board ≡ after_bytes took b
  pub down_fits : length w.down ≤ down_room
  pub up_fits : length w.up ≤ up_room

abbrev pub WhatIsJoinedStaysInsideTheFullPlay : Type 0
WhatIsJoinedStaysInsideTheFullPlay = (kind : Kind) (program : Program) (b : BoardState) (down_room up_room : ℕ)
    (es : List Event)
    → IsInsideTheFullPlay kind program b down_room up_room (taken_by_board kind program b down_room up_room es)
    (joined_after_of kind program b down_room up_room es)

-- While a joined play has neither ended nor been lost, one byte or one answer more can move, if each pipe has room for
-- one at least.
abbrev pub SomethingCanMoveUntilItIsOver : Type 0
SomethingCanMoveUntilItIsOver = (kind : Kind) (program : Program) (b : BoardState) (down_room up_room : ℕ)
    (es : List Event) → 0 < down_room → 0 < up_room
    → let w = joined_after_of kind program b down_room up_room es in
    is_over w ≡ false
    → (0 < bytes_moved side down_room up_room (Put 1) w) ⊎ (0 < bytes_moved side down_room up_room (Serve 1) w)
    ⊎ (0 < bytes_moved side down_room up_room (Take 1) w)

-- No more events move something than twice the full play's bytes, and its answers.
abbrev pub FewEventsMoveSomething : Type 0
FewEventsMoveSomething = (kind : Kind) (program : Program) (b : BoardState) (down_room up_room : ℕ) (es : List Event)
    → moving side down_room up_room es (empty_pipes (new_stream kind program) b)
    ≤ 2 * length (bytes_of_full_play kind program.steps b) + length (full kind program.steps b).answers

-- A joined play that was lost was lost by the first Lose, which came before the board took `Q`; it stands as it stood
-- then.
pub record IsLostByALose (kind : Kind) (program : Program) (b : BoardState) (down_room up_room : ℕ)
    (es : List Event) : Type 0 where
  pub before : List Event
  pub later : List Event
  pub split : es ≡ before ++ Lose ∷ later
  pub going : is_over (joined_after_of kind program b down_room up_room before) ≡ false
  pub stands : joined_after_of kind program b down_room up_room es
      ≡ record (joined_after_of kind program b down_room up_room before) { lost = true }

abbrev pub OnlyALoseLoses : Type 0
OnlyALoseLoses = (kind : Kind) (program : Program) (b : BoardState) (down_room up_room : ℕ) (es : List Event)
    → (joined_after_of kind program b down_room up_room es).lost ≡ true
    → IsLostByALose kind program b down_room up_room es

-- A play that was lost names the command in work, or the largest number where it is more: of the turns that the full
-- play makes the first of which a byte was not given out or an answer not taken.
abbrev pub ALossNamesWhatIsInWork : Type 0
ALossNamesWhatIsInWork = (kind : Kind) (program : Program) (b : BoardState) (down_room up_room : ℕ) (es : List Event)
    → let w = joined_after_of kind program b down_room up_room es in
    w.lost ≡ true
    → (command : ℕ)
    × IsInWork program.statements (turns_made (turns_for kind program.steps) b) w.player.given w.player.answered command
    × (ended_of w ≡ Some (Lost (min command (2 ^ 64 - 1))))
