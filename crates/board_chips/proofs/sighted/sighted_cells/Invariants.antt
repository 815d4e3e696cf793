use Rattle.std.proofs.Common.{◌≡◌, ◌++◌, drop}
use Rattle.board_chips.specs.Sighted.{sighted_from}
use Rattle.board_chips.proofs.sighted.sighted_cells.Given as goal

abbrev pub invariant-loop-cell : goal.invariant-loop-cell
invariant-loop-cell l = l.sighted.items ++ sighted_from l.cell l.nets (drop l.cell l.cells) ≡ sighted_from 0 l.nets l.cells
