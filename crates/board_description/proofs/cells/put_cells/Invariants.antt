use Rattle.std.proofs.Common.{◌≡◌, ◌++◌, ℕ, map, drop}
use Rattle.board_plan.specs.CellNets.{HasNets}
use Rattle.board_plan.specs.View.{net as planned_net}
use Rattle.board_description.specs.Described.{cell_lines}
use Rattle.board_description.proofs.cells.put_cells.Given as goal

-- the lines so far, with those to come, are all
abbrev pub invariant-loop-k : goal.invariant-loop-k
invariant-loop-k l = (place : ℕ) → HasNets place (map planned_net l.nets) l.table
    → l.text.items ++ cell_lines (map planned_net l.nets) place l.name l.device l.k (drop l.k l.cell-items)
    ≡ l.initial.text.items ++ cell_lines (map planned_net l.nets) place l.name l.device 0 l.cell-items
