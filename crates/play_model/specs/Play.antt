-- The player as a function of the answers it got, and the full play against a board.
use Rattle.std.specs.Prelude.{Bool, true, false, not, ◌||◌, ℕ, zero, suc, ◌+◌, ◌-◌, ◌==◌, nat_lt, List, [], ◌∷◌, ◌++◌}
use Rattle.std.specs.Prelude.{map, length, take, drop, find, Option, Some, None, is_some, if◌then◌else◌}
use Rattle.jt_tap.specs.declared.State.{State}
use Rattle.jt_tap.specs.declared.State.TheVariants.{Reset}
use Rattle.bitbang_protocol.specs.declared.Message.{Message}
use Rattle.bitbang_protocol.specs.declared.Message.TheVariants.{Ask, Quit}
use Rattle.bitbang_protocol.specs.Protocol.{encode, one_byte, read_answer}
use Rattle.board_model.specs.Chain.{BoardState, hear}
use Rattle.scan_vectors.specs.Vector.{VectorBit, judge, wanted_bits}
use Rattle.bitbang.specs.Steps.{Step, Scan, Numbered, Program, place_after}
use Rattle.play_model.specs.declared.ending.Ending.{Ending}
use Rattle.play_model.specs.declared.ending.Ending.TheVariants.{Pass, Fail, BadAnswer}
use Rattle.bitbang.specs.StepMessages.{step_messages}
use Rattle.bitbang_protocol.specs.Cycles.{opening}

-- One turn of the play: what is sent, and which bits are wanted, one an `R`. Turn 0 is the opening.
pub record Turn : Type 0 where
  pub command : ℕ
  pub messages : List Message
  pub wants : List VectorBit

abbrev pub wants_of : Step → List VectorBit
wants_of (Scan column v end) = wanted_bits v
wants_of _ = []

abbrev pub step_turns : State → List Numbered → List Turn
step_turns place [] = []
step_turns place (s ∷ ss) =
    record { command = s.number; messages = step_messages place s.what; wants = wants_of s.what }
    ∷ step_turns (place_after place s.what) ss

abbrev pub turns : List Numbered → List Turn
turns steps = record { command = 0; messages = opening; wants = [] } ∷ step_turns Reset steps

-- the messages up to the first `R` past so many
abbrev pub up_to_asks : List Message → ℕ → List Message
up_to_asks [] n = []
up_to_asks (Ask ∷ ms) zero = []
up_to_asks (Ask ∷ ms) (suc n) = Ask ∷ up_to_asks ms n
up_to_asks (m ∷ ms) n = m ∷ up_to_asks ms n

-- What the player may send for these answers, with so many owed answers allowed. The next turn, or Quit, waits until
-- every answer of the present one is there; after a turn of which a bit failed comes Quit.
abbrev pub sent : (window : ℕ) → List Turn → List Bool → List Message
sent window [] got = Quit ∷ []
sent window (t ∷ ts) got =
    let rest = sent window ts (drop (length t.wants) got) in
    elim (nat_lt (length got) (length t.wants)) [
      | true ↦ up_to_asks t.messages (length got + window)
      | false ↦ t.messages ++ elim (judge t.wants got) [ None ↦ rest | Some f ↦ Quit ∷ [] ]
    ]

-- The player's bytes.
abbrev pub player : (window : ℕ) → List Turn → List Bool → List ℕ
player window ts got = map encode (sent window ts got)

-- The player's verdict once all answers that it wants are there.
abbrev pub verdict : List Turn → List Bool → Ending
verdict [] got = Pass
verdict (t ∷ ts) got =
    let rest = verdict ts (drop (length t.wants) got) in
    elim (judge t.wants got) [ None ↦ rest | Some f ↦ Fail t.command f.0 f.1 ]

-- an answer other than `0` and `1`
abbrev pub is_bad : ℕ → Bool
is_bad b = not (is_some (read_answer b))

-- How the play ends for these answer bytes, None while answers are owed: a byte other than `0` or `1` is BadAnswer
-- of the turn that it belongs to.
abbrev pub ending_for : List Turn → List ℕ → Option Ending
ending_for [] got = Some Pass
ending_for (t ∷ ts) got =
    let rest = ending_for ts (drop (length t.wants) got) in
    elim (find is_bad (take (length t.wants) got)) [
      | Some b ↦ Some (BadAnswer t.command b)
      | None ↦ if nat_lt (length got) (length t.wants) then None else
          elim (judge t.wants (map (λ b. b == one_byte) got)) [ None ↦ rest | Some f ↦ Some (Fail t.command f.0 f.1) ]
    ]

-- The command in work, when so many messages were given out and these answers taken: the first turn that the play
-- makes of which something is not yet sent or answered, then the statements plus 1.
abbrev pub in_work : (statements : ℕ) → List Turn → (given : ℕ) → List Bool → ℕ
in_work n [] given got = suc n
in_work n (t ∷ ts) given got =
    let rest = in_work n ts (given - length t.messages) (drop (length t.wants) got) in
    elim (nat_lt given (length t.messages) || nat_lt (length got) (length t.wants)) [
      | true ↦ t.command
      | false ↦ elim (judge t.wants got) [ None ↦ rest | Some f ↦ suc n ]
    ]

-- what both ends said, the verdict, and the board afterwards
pub record Played : Type 0 where
  pub messages : List Message
  pub answers : List Bool
  pub ending : Ending
  pub board : BoardState

-- The full play: each message is taken and answered as soon as it is sent.
abbrev pub full_play : List Turn → BoardState → Played
full_play [] b = record { messages = Quit ∷ []; answers = []; ending = Pass; board = b }
full_play (t ∷ ts) b =
    let heard = hear t.messages b in
    let rest = full_play ts heard.board in
    elim (judge t.wants heard.answers) [
      | None ↦ record {
        messages = t.messages ++ rest.messages;
        answers = heard.answers ++ rest.answers;
        ending = rest.ending;
        board = rest.board;
      }
      | Some f ↦ record {
        messages = t.messages ++ Quit ∷ [];
        answers = heard.answers;
        ending = Fail t.command f.0 f.1;
        board = heard.board;
      }
    ]

abbrev pub play : Program → BoardState → Played
play p b = full_play (turns p.steps) b
