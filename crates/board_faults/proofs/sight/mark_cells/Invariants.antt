use Rattle.std.proofs.Common.{map, take}
use Rattle.boundary.specs.Masks as masks
use Rattle.board_faults.specs.Sights.{Marks}
use Rattle.board_faults.proofs.sight.mark_cells.Given as goal

abbrev pub invariant-loop-cell : goal.invariant-loop-cell
invariant-loop-cell l = Marks l.fn.read l.read (map (λ c. masks.sighted_port c.port c.function) (take l.cell-index l.cells))
