use Rattle.std.proofs.Common.{◌≡◌, map, drop}
use Rattle.std.specs.Prelude.{nat_le}
use Rattle.std.specs.List.{list_all}
use Rattle.bsdl_values.specs.CellView.{cell_row}
use Rattle.jt_limits.specs.Limits.{subscript_limit}
use Rattle.bsdl_rules.proofs.limits.numbers_within.Given as goal

abbrev pub invariant-loop-row : goal.invariant-loop-row
invariant-loop-row l = list_all (λ r. nat_le r.number subscript_limit) (map cell_row (drop l.row-index l.rows)) ≡ list_all (λ r. nat_le r.number subscript_limit) (map cell_row l.rows)
