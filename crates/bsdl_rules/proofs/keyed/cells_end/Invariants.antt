use Rattle.std.proofs.Common.{◌≡◌, suc, max, min, map, take}
use Rattle.std.specs.List.{fold}
use Rattle.jt_limits.specs.Limits.{subscript_limit}
use Rattle.bsdl_values.specs.CellView.{cell_row}
use Rattle.bsdl_rules.proofs.keyed.cells_end.Given as goal

abbrev pub invariant-loop-row : goal.invariant-loop-row
invariant-loop-row l = l.end ≡ min (fold (λ n r. max n (suc r.number)) l.length (map cell_row (take l.row-index l.rows))) (suc subscript_limit)
