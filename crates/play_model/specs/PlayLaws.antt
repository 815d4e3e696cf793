-- What the definitions of the play promise of every program, board and window.
use Rattle.std.specs.Prelude.{◌≡◌, ◌≢◌, Bool, ℕ, List, [], ◌++◌, length}
use Rattle.jt_tap.specs.declared.State.{State}
use Rattle.board_model.specs.Chain.{BoardState, hear}
use Rattle.bitbang.specs.Steps.{Step, Numbered}
use Rattle.bitbang.specs.StepMessages.{step_messages}
use Rattle.board_model.specs.Laws.{IsReset}
use Rattle.board_model.specs.Resting.{IsAtRest}
use Rattle.board_model.specs.Whole.{AtRest}
use Rattle.play_model.specs.DirectPlay.{opened_state}
use Rattle.play_model.specs.declared.ending.Ending.TheVariants.{Pass}
use Rattle.play_model.specs.Meaning.{outcome}
use Rattle.play_model.specs.Play.{full_play, player, sent, turns, wants_of}

-- With further answers the player may send what it might before, and perhaps more.
abbrev pub PlayerGrows : Type 0
PlayerGrows = (window : ℕ) (steps : List Numbered) (got more : List Bool)
    → (rest : List ℕ) × (player window (turns steps) (got ++ more) ≡ player window (turns steps) got ++ rest)

-- For the full play's answers the player sends the full play's messages, whatever may be owed; and the board answers
-- these messages by these answers, and ends where the full play ends.
abbrev pub FullPlayIsBothEnds : Type 0
FullPlayIsBothEnds = (window : ℕ) (steps : List Numbered) (b : BoardState) → let p = full_play (turns steps) b in
    (sent window (turns steps) p.answers ≡ p.messages)
    × (hear p.messages b ≡ record { answers = p.answers; board = p.board })

-- The answers that the bytes of a step ask for are as many as the bits that it wants.
abbrev pub StepsAskForTheirBits : Type 0
StepsAskForTheirBits = (place : State) (step : Step) (b : BoardState)
    → length (hear (step_messages place step) b).answers ≡ length (wants_of step)

-- The empty program leaves every board at rest in RESET, where nothing is left to reset, and passes.
abbrev pub EmptyProgramRests : Type 0
EmptyProgramRests = (b : BoardState) → let play = full_play (turns []) b in
    IsAtRest play.board (opened_state b) × IsReset (opened_state b) × (play.ending ≡ Pass)

-- A program that fails goes no further: under every program that begins with it the play on a board is the same, and so
-- is the meaning over whole registers.
pub record WhatFollowsAFailureIsNotPlayed : Type 0 where
  pub played : (steps more : List Numbered) (b : BoardState) → (full_play (turns steps) b).ending ≢ Pass
      → full_play (turns (steps ++ more)) b ≡ full_play (turns steps) b
  pub meant : (steps more : List Numbered) (m : AtRest) → (outcome steps m).ending ≢ Pass
      → outcome (steps ++ more) m ≡ outcome steps m
