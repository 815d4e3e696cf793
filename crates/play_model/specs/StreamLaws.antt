-- The player that keeps no answers goes as the one that is known by them.
use Rattle.std.specs.Prelude.{Bool, Some, true, ◌≡◌, false, ℕ, ◌+◌, ◌≤◌, List, [], ◌∷◌, ◌++◌, map, length, find}
use Rattle.std.specs.Prelude.{if◌then◌else◌}
use Rattle.bitbang_protocol.specs.Protocol.{answer}
use Rattle.board_model.specs.Chain.{BoardState, after_bytes}
use Rattle.play_model.specs.Events.{Event, Known, World, by_answers, empty_pipes, before_events as fresh_world, run}
use Rattle.play_model.specs.Play.{is_bad, player, turns}
use Rattle.play_model.specs.Playing as playing
use Rattle.play_model.specs.Playing.{PlayerState, has_bad_answer}
use Rattle.bitbang.specs.Steps.{Program}
use Rattle.play_model.specs.declared.kind.Kind.{Kind}
use Rattle.play_model.specs.declared.kind.Kind.TheVariants.{Stops}
use Rattle.play_model.specs.PlayingOn.{failures, turns_for}
use Rattle.play_model.specs.Fronts.{IsPrefix}
use Rattle.play_model.specs.ScheduleLaws.{full, bytes_of_full_play}
use Rattle.play_model.specs.Sides.{answers_to_bytes}
use Rattle.play_model.specs.Histories as history
use Rattle.play_model.specs.Histories.{WasAsked, bits_told}
use Rattle.play_model.specs.Streams as stream
use Rattle.play_model.specs.Streams.{StreamState, found_of, hear_bytes}

-- the answers before the first that is neither `0` nor `1`
abbrev pub good : List ℕ → List ℕ
good [] = []
good (b ∷ bytes) = if is_bad b then [] else b ∷ good bytes

-- the stream of a history
abbrev pub stream_of : Kind → PlayerState → StreamState
stream_of kind p = record {
  program = p.program;
  kind = kind;
  given = p.given;
  answered = length (good p.got);
  found = found_of kind (failures (turns p.program.steps) (bits_told (good p.got)));
  bad = find is_bad p.got;
}

-- For every list of answers: heard one by one they lead from a history's stream to the stream of the longer history.
abbrev pub HearingIsTheHistory : Type 0
HearingIsTheHistory = (kind : Kind) (p : PlayerState) (bytes : List ℕ)
    → hear_bytes bytes (stream_of kind p) ≡ stream_of kind (record p { got = p.got ++ bytes })

abbrev pub FreshAgrees : Type 0
FreshAgrees = (kind : Kind) (program : Program)
    → stream_of kind (playing.new_player program) ≡ stream.new_stream kind program

-- What callers see is the same.
pub record IsSame (kind : Kind) (window : ℕ) (p : PlayerState) : Type 0 where
  pub waiting : stream.bytes_to_send window (stream_of kind p) ≡ history.bytes_to_send kind window p
  pub owed : stream.owed window (stream_of kind p) ≡ history.owed kind window p
  pub taken : (bytes : List ℕ)
      → stream.answers_taken window (stream_of kind p) bytes ≡ history.answers_taken kind window p bytes
  pub ended : stream.ending_of_stream window (stream_of kind p) ≡ history.ending_of_history kind window p
  pub working : has_bad_answer p ≡ false → stream.working (stream_of kind p) ≡ history.working kind window p

abbrev pub StreamsAgree : Type 0
StreamsAgree = (kind : Kind) (window : ℕ) (p : PlayerState) → WasAsked kind window p → IsSame kind window p

-- Calls go alike: bytes are given out, and answers taken, as many at once as come.
pub record GoesAlike (kind : Kind) (window : ℕ) (p : PlayerState) : Type 0 where
  pub give : (n : ℕ) → record (stream_of kind p) { given = p.given + n }
      ≡ stream_of kind (record p { given = p.given + n })
  pub answers : (bytes : List ℕ) → hear_bytes (stream.answers_taken window (stream_of kind p) bytes) (stream_of kind p)
      ≡ stream_of kind (record p { got = p.got ++ history.answers_taken kind window p bytes })

abbrev pub CallsGoAlike : Type 0
CallsGoAlike = (kind : Kind) (window : ℕ) (p : PlayerState) → WasAsked kind window p → GoesAlike kind window p

-- The histories that calls lead to.
pub record StaysAsked (kind : Kind) (window : ℕ) : Type 0 where
  pub fresh : (program : Program) → WasAsked kind window (playing.new_player program)
  pub give : (p : PlayerState) (n : ℕ) → WasAsked kind window p
      → WasAsked kind window (record p { given = p.given + n })
  pub answer : (p : PlayerState) (bytes : List ℕ) → WasAsked kind window p
      → WasAsked kind window (record p { got = p.got ++ history.answers_taken kind window p bytes })

abbrev pub AnsweringStaysAsked : Type 0
AnsweringStaysAsked = (kind : Kind) (window : ℕ) → StaysAsked kind window

-- Whatever the state, no more answers are owed than the window.
abbrev pub OwedWithinTheWindow : Type 0
OwedWithinTheWindow = (window : ℕ) (s : StreamState) → stream.owed window s ≤ window

-- what is known of a player, as a history and as a stream
abbrev pub history_of : Program → Known → PlayerState
history_of program p = record { program = program; given = p.given; got = map answer p.got }

abbrev pub with_player : {P Q : Type 0} → (P → Q) → World P → World Q
with_player f w = record {
  player = f w.player;
  down = w.down;
  up = w.up;
  board = w.board;
  quit = w.quit;
  lost = w.lost;
}

-- Over two pipes of any room, whatever events happen, it goes as the player of the laws of every schedule.
abbrev pub SchedulesCarryOver : Type 0
SchedulesCarryOver = (kind : Kind) (window : ℕ) (program : Program) (b : BoardState) (down_room up_room : ℕ)
    (es : List Event)
    → run (stream.side window) down_room up_room es (empty_pipes (stream.new_stream kind program) b)
    ≡ with_player (λ p. stream_of kind (history_of program p))
    (run (by_answers (player window (turns_for kind program.steps))) down_room up_room es (fresh_world b))

-- Over a link that hands on bytes and answers as they are, a player that stops and has ended has the full play's
-- verdict, and all its bytes lead a board to the full play's, whatever the window.
pub record IsFullPlay (window : ℕ) (p : PlayerState) (b : BoardState) : Type 0 where
  pub ending : history.ending_of_history Stops window p ≡ Some (full Stops p.program.steps b).ending
  pub bytes : history.given_out Stops window p ≡ bytes_of_full_play Stops p.program.steps b
  pub board : after_bytes (history.given_out Stops window p) b ≡ (full Stops p.program.steps b).board

abbrev pub AnHonestVerdictForAnyWindow : Type 0
AnHonestVerdictForAnyWindow = (window : ℕ) (p : PlayerState) (b : BoardState) (got : List Bool) → p.got ≡ map answer got
    → IsPrefix got (answers_to_bytes (history.given_out Stops window p) b) → history.has_ended Stops window p ≡ true
    → IsFullPlay window p b
