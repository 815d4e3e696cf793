-- What the calls on whole registers ask of a board.
use Rattle.board_model.specs.Chain.{BoardState}
use Rattle.board_model.specs.Resting.{IsAtRest}
use Rattle.board_model.specs.Whole.{AtRest}

-- A board that is at rest, in some state of whole registers.
pub record IsResting (b : BoardState) : Type 0 where
  pub state : AtRest
  pub is : IsAtRest b state
