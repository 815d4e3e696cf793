use Rattle.std.proofs.Common.{◌≡◌, drop, map}
use Rattle.bsdl_values.specs.CellView.{cell_row}
use Rattle.bsdl_sizes.specs.Limits.{numbers_fit}
use Rattle.bsdl_sizes.proofs.limits.numbers_fit.Given as goal

abbrev pub invariant-loop-row : goal.invariant-loop-row
invariant-loop-row l = numbers_fit (map cell_row (drop l.row-index l.rows)) ≡ numbers_fit (map cell_row l.rows)
