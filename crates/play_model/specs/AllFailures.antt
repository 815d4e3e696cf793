-- The laws of a player that plays on: what it finds first is what one that stops finds, over whole registers and edge
-- by edge.
use Rattle.std.specs.Prelude.{◌≡◌, true, List}
use Rattle.board_model.specs.Chain.{BoardState, hear}
use Rattle.board_model.specs.Resting.{IsAtRest}
use Rattle.bitbang_protocol.specs.Cycles.{opening}
use Rattle.board_model.specs.Whole.{AtRest}
use Rattle.play_model.specs.Play.{full_play, turns}
use Rattle.bitbang.specs.Steps.{Numbered}
use Rattle.play_model.specs.Meaning.{outcome}
use Rattle.play_model.specs.Events.{Event}
use Rattle.board_model.specs.Sound.{HasDevice, IsSoundBoard}
use Rattle.bitbang.specs.Legal.{IsLegalProgram}
use Rattle.play_model.specs.ScheduleLaws.{Connection, after_events}
use Rattle.play_model.specs.declared.kind.Kind.TheVariants.{Stops, PlaysOn}
use Rattle.play_model.specs.PlayingOn.{Mismatch, ending_of, failures, outcome_of_all, turns_for}

-- Over whole registers, on every program and from every state: the first of all failures is the first failure.
abbrev pub FirstOfAllIsTheFirst : Type 0
FirstOfAllIsTheFirst = (steps : List Numbered) (m : AtRest)
    → ending_of (outcome_of_all steps m).failures ≡ (outcome steps m).ending

-- Edge by edge, on every program and board: the first failure in the answers of a play to the end is that of the play
-- that stops.
abbrev pub FirstOfAllPlayedIsTheFirst : Type 0
FirstOfAllPlayedIsTheFirst = (steps : List Numbered) (b : BoardState)
    → ending_of (failures (turns steps) (full_play (turns_for PlaysOn steps) b).answers)
    ≡ (full_play (turns_for Stops steps) b).ending

-- For every legal program and sound board that has a device: the failures of a play to the end are those of the
-- program's meaning over whole registers, all of them, and the board is at rest where this meaning leaves it.
pub record MeansAllFromOpening (steps : List Numbered) (b : BoardState) (found : List Mismatch)
    (after : BoardState) : Type 0 where
  pub opened : AtRest
  pub rests : IsAtRest (hear opening b).board opened
  pub failures : found ≡ (outcome_of_all steps opened).failures
  pub board : IsAtRest after (outcome_of_all steps opened).after

abbrev pub APlayToTheEndMeansAll : Type 0
APlayToTheEndMeansAll = (steps : List Numbered) (b : BoardState) → IsSoundBoard b → HasDevice b → IsLegalProgram steps
    → let p = full_play (turns_for PlaysOn steps) b in MeansAllFromOpening steps b (failures (turns steps) p.answers)
    p.board

-- And so on every schedule, once the board took `Q`.
abbrev pub EveryScheduleMeansAll : Type 0
EveryScheduleMeansAll = (l : Connection) → l.kind ≡ PlaysOn → (steps : List Numbered) (b : BoardState) (es : List Event)
    → IsSoundBoard b → HasDevice b → IsLegalProgram steps → let w = after_events l steps b es in
    w.quit ≡ true → MeansAllFromOpening steps b (failures (turns steps) w.player.got) w.board
