-- Player and board joined by two bounded pipes, as the program holds them.
use Rattle.std.specs.Prelude.{◌≡◌, Bool, not, ◌||◌, ℕ, List, [], ◌∷◌, map, Option, Some, None}
use Rattle.std.specs.Prelude.{if◌then◌else◌}
use Rattle.bitbang_protocol.specs.Protocol.{answer, decode}
use Rattle.circular_buffer.specs.Buffer.{Buffer}
use Rattle.board_model.specs.Chain.{BoardState}
use Rattle.play_pipes.specs.declared.event.Event as declared
use Rattle.play_pipes.specs.declared.event.Event.TheVariants as happening
use Rattle.play_model.specs.Events.{Event, Put, Serve, Take, Lose, Side, World, has_room}
use Rattle.play_model.specs.Events.{after_byte_taken as taken_byte}
use Rattle.play_model.specs.Streams as stream
use Rattle.play_model.specs.Streams.{StreamState}
use Rattle.play_model.specs.Histories.{bits_told}
use Rattle.player.specs.Window.{window}

-- The player, as events see it, with up to 256 answers owed.
abbrev pub side : Side StreamState
side = stream.side window

pub record JoinedState : Type 0 where
  pub world : World StreamState
  pub down_room : ℕ
  pub up_room : ℕ

abbrev pub world_between : StreamState → BoardState → Buffer ℕ → Buffer ℕ → (quit lost : Bool) → JoinedState
world_between player board down up quit lost = record {
  world =
      record { player = player; down = down.items; up = bits_told up.items; board = board; quit = quit; lost = lost };
  down_room = down.capacity;
  up_room = up.capacity;
}

-- every byte in the up pipe is an answer
abbrev pub AreAnswers : List ℕ → Type 0
AreAnswers bytes = bytes ≡ map answer (bits_told bytes)

-- the world after the board took one byte, if it takes one
abbrev pub one_byte_served : ℕ → World StreamState → Option (World StreamState)
one_byte_served capacity w = one w.down
  where
    one : List ℕ → Option (World StreamState)
    one [] = None
    one (b ∷ bytes) =
        if w.quit || not (has_room capacity w (decode b)) then None else Some (taken_byte bytes (decode b) w)

abbrev pub event_of : declared.Event → Event
event_of (happening.Put n) = Put n
event_of (happening.Serve n) = Serve n
event_of (happening.Take n) = Take n
event_of happening.Lose = Lose
