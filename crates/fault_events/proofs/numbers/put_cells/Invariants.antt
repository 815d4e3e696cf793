use Rattle.std.proofs.Common.{◌≡◌, ◌++◌, map, take}
use Rattle.fault_events.specs.Numbers.{number_of_cell}
use Rattle.fault_events.proofs.numbers.put_cells.Given as goal

abbrev pub invariant-loop-cell : goal.invariant-loop-cell
invariant-loop-cell l = l.list.items ≡ l.fn.list.items ++ map (number_of_cell (map (λ t. t.items) l.tables) l.device) (take l.cell-index l.cells)
