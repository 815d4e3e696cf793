-- The strings of boards in use.
use Rattle.std.specs.Prelude.{◌≡◌, List}
use Rattle.std.specs.List.{AllByRecursion}
use Rattle.board_model.specs.Cells.{Member}
use Rattle.board_model.specs.Chain.{BoardState, members}
use Rattle.board_model.specs.Following.{AreFit, EveryStringHolds, HasNoCircle}
use Rattle.board_model.specs.Nets.{in_force}
use Rattle.jt_board.specs.InUse.{IsInUse}

-- No net depends on itself, and each string is for a core bit that is there, the only one for it. So every string holds
-- under the core bits in force, and under no others.
pub record HasItsStrings (b : BoardState) : Type 0 where
  pub free : HasNoCircle b.nets (members b.chips)
  pub fit : AllByRecursion (λ m. AreFit m) (members b.chips)
  pub holds : EveryStringHolds b.nets (members b.chips) (in_force b.nets (members b.chips))
  pub only : (held : List Member) → EveryStringHolds b.nets (members b.chips) held
      → held ≡ in_force b.nets (members b.chips)

abbrev pub EveryBoardInUseHasItsStrings : Type 0
EveryBoardInUseHasItsStrings = (b : BoardState) → IsInUse b → HasItsStrings b
