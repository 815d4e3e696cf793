use Rattle.std.proofs.Common.{map, ◌∙◌}
use Rattle.std.proofs.lemmas.Result.{IfOk-weaker}
use Rattle.std.specs.BTreeMap.{get}
use Rattle.std.specs.Ordering.{nat_cmp}
use Rattle.bsdl_values.specs.CellView.{cell_row}
use Rattle.bsdl.specs.Boundary.{cell}
use Rattle.bsdl.proofs.ListedCells.{each_once}
use Rattle.bsdl.proofs.cells.cells_by_key.Goals as goal

pub returns : goal.returns
returns c = IfOk-weaker c.listed.result _ _ (λ cells listed ps at bits_are.
    listed ∙ each_once (cell ps) (map cell_row c.args.rows.now) (get nat_cmp c.in_ok-table.table) c.args.len (c.in_ok-table.ensures ps at bits_are) c.requires.once) c.listed.ensures
