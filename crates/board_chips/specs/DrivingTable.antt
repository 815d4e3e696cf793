-- The pins of a board that a cell drives, by their cells, with what was last put to their nets.
use Rattle.std.specs.Prelude.{ℕ, List}
use Rattle.boundary.specs.declared.DrivenCells.{DrivenCells}
use Rattle.board_chips.specs.declared.driving.Block.{Block}
use Rattle.board_chips.specs.declared.driving.DrivingPin.{DrivingPin}

pub record DrivingTable : Type 0 where
  -- each has 64 cells of a device
  pub blocks : List Block
  -- of each block the pins that its 64 cells drive; that of a cell that drives none does not count
  pub pins : List ℕ
  -- of each block what was last put to its pins
  pub put : List DrivenCells
  -- the pins that stand in no block
  pub rest : List DrivingPin
