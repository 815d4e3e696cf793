-- Player and board with two bounded pipes between them, event by event.
use Rattle.std.specs.Prelude.{Bool, true, false, not, ◌||◌, ℕ, zero, suc, ◌+◌, ◌-◌, min, nat_lt, List, [], ◌∷◌, ◌++◌}
use Rattle.std.specs.Prelude.{length, take, drop, Option, Some, None, if◌then◌else◌}
use Rattle.bitbang_protocol.specs.declared.Message.{Message}
use Rattle.bitbang_protocol.specs.declared.Message.TheVariants.{Ask, Quit}
use Rattle.bitbang_protocol.specs.Protocol.{decode}
use Rattle.board_model.specs.Chain.{BoardState, after_message, answers}
use Rattle.play_model.specs.declared.ending.Ending.{Ending}
use Rattle.play_model.specs.declared.ending.Ending.TheVariants.{Lost}
use Rattle.play_model.specs.Play.{Turn, verdict, in_work}

-- Put: the player puts some next bytes into the down pipe. Serve: the board takes some of them, and puts their answers
-- into the up pipe. Take: the player takes some answers. Lose: the connection is lost. A number is the most that is
-- moved.
pub data Event : Type 0 where
  Put : ℕ → Event
  Serve : ℕ → Event
  Take : ℕ → Event
  Lose : Event

-- A player, as events see it: the bytes that it may send and did not yet, and what becomes of it as so many of them are
-- given out, and as it takes an answer.
pub record Side (P : Type 0) : Type 0 where
  pub waiting : P → List ℕ
  pub give : ℕ → P → P
  pub hear : Bool → P → P

abbrev pub hear_bits : {P : Type 0} → Side P → List Bool → P → P
hear_bits side [] p = p
hear_bits side (bit ∷ bits) p = hear_bits side bits (side.hear bit p)

-- The down pipe holds bytes for the board, the up pipe answers for the player. The board took `Q`, or the play was
-- lost.
pub record World (P : Type 0) : Type 0 where
  pub player : P
  pub down : List ℕ
  pub up : List Bool
  pub board : BoardState
  pub quit : Bool
  pub lost : Bool

abbrev pub empty_pipes : {P : Type 0} → P → BoardState → World P
empty_pipes p b = record { player = p; down = []; up = []; board = b; quit = false; lost = false }

module _ {P : Type 0} where
  -- whether the board takes the byte: not an `R` whose answer has no room
  abbrev pub has_room : ℕ → World P → Option Message → Bool
  has_room capacity w (Some Ask) = nat_lt (length w.up) capacity
  has_room capacity w _ = true

  -- the world after the board took one byte
  abbrev pub after_byte_taken : List ℕ → Option Message → World P → World P
  after_byte_taken rest (Some Quit) w = record w { down = rest; quit = true }
  after_byte_taken rest (Some m)
      w = record w { down = rest; up = w.up ++ answers m w.board; board = after_message m w.board }
  after_byte_taken rest None w = record w { down = rest }

  -- the board takes up to n bytes, stopping before an `R` without room and after Quit
  abbrev pub served : (capacity n : ℕ) → List ℕ → World P → World P
  served capacity zero bytes w = w
  served capacity (suc n) [] w = w
  served capacity (suc n) (b ∷ bytes) w =
      if w.quit || not (has_room capacity w (decode b)) then w
      else served capacity n bytes (after_byte_taken bytes (decode b) w)

  module _ (side : Side P) (down_room up_room : ℕ) where
    -- up to n bytes go into the down pipe, as many as wait and as it has room for
    abbrev pub put_bytes : ℕ → World P → World P
    put_bytes n w =
        let piece = take (min n (down_room - length w.down)) (side.waiting w.player) in
        record w { player = side.give (length piece) w.player; down = w.down ++ piece }

    -- up to n answers go to the player
    abbrev pub take_answers : ℕ → World P → World P
    take_answers n w = record w { player = hear_bits side (take n w.up) w.player; up = drop n w.up }

    -- After an end or a loss nothing changes.
    abbrev pub happens : Event → World P → World P
    happens (Put n) w = if w.quit || w.lost then w else put_bytes n w
    happens (Serve n) w = if w.quit || w.lost then w else served up_room n w.down w
    happens (Take n) w = if w.quit || w.lost then w else take_answers n w
    happens Lose w = if w.quit then w else record w { lost = true }

    -- a whole schedule
    abbrev pub run : List Event → World P → World P
    run [] w = w
    run (e ∷ es) w = run es (happens e w)

    -- how many bytes or answers an event moves
    abbrev pub bytes_moved : Event → World P → ℕ
    bytes_moved (Put n) w = length (happens (Put n) w).down - length w.down
    bytes_moved (Serve n) w = length w.down - length (happens (Serve n) w).down
    bytes_moved (Take n) w = length w.up - length (happens (Take n) w).up
    bytes_moved Lose w = 0

    -- how many events of a schedule move something
    abbrev pub moving : List Event → World P → ℕ
    moving [] w = 0
    moving (e ∷ es) w = (if nat_lt 0 (bytes_moved e w) then 1 else 0) + moving es (happens e w)

    -- the bytes that the board takes at an event, and over a schedule
    abbrev pub taken_at : Event → World P → List ℕ
    taken_at (Serve n) w = take (bytes_moved (Serve n) w) w.down
    taken_at _ w = []

    abbrev pub taken_over : List Event → World P → List ℕ
    taken_over [] w = []
    taken_over (e ∷ es) w = taken_at e w ++ taken_over es (happens e w)

-- A player that is known by how many bytes it gave out, and by the answers that it took.
pub record Known : Type 0 where
  pub given : ℕ
  pub got : List Bool

-- It is given by the bytes that it may send for each list of answers.
abbrev pub by_answers : (List Bool → List ℕ) → Side Known
by_answers sends = record {
  waiting = λ p. drop p.given (sends p.got);
  give = λ n p. record p { given = p.given + n };
  hear = λ bit p. record p { got = p.got ++ bit ∷ [] };
}

-- nothing given out, empty pipes
abbrev pub before_events : BoardState → World Known
before_events b = empty_pipes (record { given = 0; got = [] }) b

-- How it ended: by the board's Quit with the player's verdict, or lost at the command in work.
abbrev pub ending_of_world : (statements : ℕ) → List Turn → World Known → Option Ending
ending_of_world n ts w =
    if w.lost then Some (Lost (in_work n ts w.player.given w.player.got)) else if w.quit
    then Some (verdict ts w.player.got) else None
