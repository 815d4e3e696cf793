-- The laws of direct play: what the bytes of a legal step and of a legal program do, edge by edge, is what whole
-- registers say.
use Rattle.std.specs.Prelude.{◌≡◌, ◌↔◌, true, false, ℕ, ◌<◌, List, length}
use Rattle.std.specs.List.{AllByRecursion}
use Rattle.jt_tap.specs.declared.State.TheVariants.{Reset}
use Rattle.jt_tap.specs.Controller.{is_stable}
use Rattle.board_model.specs.Cells.{Member}
use Rattle.pin_nets.specs.Wired.{Net}
use Rattle.board_model.specs.Chain.{BoardState, after_bytes, hear}
use Rattle.board_model.specs.Resting.{IsAtRest, IsRest, power_up, board_at_rest}
use Rattle.play_model.specs.Legal.{IsLegal, AllLegal}
use Rattle.board_model.specs.Sound.{HasDevice, IsPoweredUp, IsSoundBoard, AllSound}
use Rattle.bitbang_protocol.specs.Cycles.{opening}
use Rattle.bitbang.specs.StepMessages.{step_messages}
use Rattle.bitbang.specs.Steps.{Step, Numbered, Program}
use Rattle.play_model.specs.Meaning.{after_step, failure, outcome}
use Rattle.scan_vectors.specs.Vector.{judge}
use Rattle.board_model.specs.Whole.{AtRest}
use Rattle.play_model.specs.DirectPlay.{MeansFromOpening, opened_state}
use Rattle.play_model.specs.Play.{full_play, play, player, turns, wants_of}
use Rattle.bitbang.specs.Legal.{AllLegalFrom, IsLegalProgram}

-- What a step's bytes do from rest: the board at rest that whole registers give, the same first bit that differs, at
-- rest again and sound again.
pub record StepPlaysAsItMeans (step : Step) (m : AtRest) : Type 0 where
  pub board : IsAtRest (hear (step_messages m.place step) (board_at_rest m)).board (after_step step m)
  pub judged : judge (wants_of step) (hear (step_messages m.place step) (board_at_rest m)).answers ≡ failure step m
  pub rest : IsRest (after_step step m)
  pub sound : AllSound (after_step step m).members
  pub devices : length (after_step step m).members ≡ length m.members

-- Of every legal step, from rest on a chain of sound devices.
abbrev pub EachLegalStepPlaysAsItMeans : Type 0
EachLegalStepPlaysAsItMeans = (step : Step) (m : AtRest) → IsRest m → AllSound m.members → 0 < length m.members
    → IsLegal step m → StepPlaysAsItMeans step m

-- where the opening of a play leaves a board: at rest in RESET, TRST released, and sound
pub record IsOpened (b : BoardState) (m : AtRest) : Type 0 where
  pub board : IsAtRest (hear opening b).board m
  pub rest : IsRest m
  pub in_reset : m.place ≡ Reset
  pub released : m.trst ≡ false
  pub sound : AllSound m.members

-- The ending of the full play is that of the steps' meaning, and the board is at rest where this meaning leaves it.
-- There the player's bytes leave it too, sent for the play's answers with any window of owed ones.
pub record PlaysAsItMeans (steps : List Numbered) (b : BoardState) (m : AtRest) : Type 0 where
  pub ending : (full_play (turns steps) b).ending ≡ (outcome steps m).ending
  pub board : IsAtRest (full_play (turns steps) b).board (outcome steps m).after
  pub bytes : (window : ℕ)
      → IsAtRest (after_bytes (player window (turns steps) (full_play (turns steps) b).answers) b)
      (outcome steps m).after

-- From the state after the opening every legal program plays as it means, on every sound board that has a device.
abbrev pub EveryLegalProgramPlaysAsItMeans : Type 0
EveryLegalProgramPlaysAsItMeans = (b : BoardState) → IsSoundBoard b → HasDevice b
    → IsOpened b (opened_state b)
    × ((steps : List Numbered) → AllLegal steps (opened_state b) → PlaysAsItMeans steps b (opened_state b))

-- Which programs are legal is a matter of the program alone, of the place and of the TRST line where it begins.
abbrev pub LegalityIsOfTheProgram : Type 0
LegalityIsOfTheProgram = (steps : List Numbered) (m : AtRest) → is_stable m.place ≡ true
    → AllLegalFrom m.place m.trst steps ↔ AllLegal steps m

-- A board that has a device is at rest in one state alone.
abbrev pub TheStateAtRestIsOne : Type 0
TheStateAtRestIsOne = (b : BoardState) (m n : AtRest) → HasDevice b → IsAtRest b m → IsAtRest b n → m ≡ n

-- a board as it powers up, after some bytes
abbrev pub powered_up_after : List Net → List Member → List ℕ → BoardState
powered_up_after nets ms bytes = after_bytes bytes (board_at_rest (power_up nets ms))

-- On every board of at least one device, all of sound descriptions, after any bytes, every legal program plays as it
-- means.
abbrev pub EveryDescribedBoardPlaysLegalPrograms : Type 0
EveryDescribedBoardPlaysLegalPrograms = (nets : List Net) (ms : List Member) (bytes : List ℕ)
    → AllByRecursion (λ d. IsPoweredUp d) ms → 0 < length ms
    → let b = powered_up_after nets ms bytes in
    IsOpened b (opened_state b)
    × ((steps : List Numbered) → IsLegalProgram steps → PlaysAsItMeans steps b (opened_state b))

-- The clause that the contracts of direct play have holds for every legal program and sound board, with the play's
-- ending and board.
abbrev pub EveryLegalProgramMeansFromOpening : Type 0
EveryLegalProgramMeansFromOpening = (program : Program) (b : BoardState) → IsSoundBoard b → HasDevice b
    → IsLegalProgram program.steps
    → MeansFromOpening program b (play program b).ending (play program b).board
