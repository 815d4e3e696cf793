use Rattle.std.proofs.Common.{◌≡◌, map, take}
use Rattle.chip_instructions.specs.Cell.{Cell}
use Rattle.board_plan.specs.CellNets.{net_by}
use Rattle.board_plan.proofs.cells.nets_by.Given as goal

abbrev pub invariant-loop-cell : goal.invariant-loop-cell
invariant-loop-cell l = l.all.items ≡ map (λ (c : Cell). net_by l.table c.port) (take l.cell-index l.cells)
