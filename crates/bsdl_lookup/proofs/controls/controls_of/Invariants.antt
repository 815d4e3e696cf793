use Rattle.std.proofs.Common.{◌≡◌, ◌≤◌, ℕ, map, take}
use Rattle.std.specs.List.{list_any}
use Rattle.std.specs.BTreeSet.{contains_by}
use Rattle.std.specs.Ordering.{nat_cmp}
use Rattle.jt_limits.specs.Limits.{subscript_limit}
use Rattle.bsdl_values.specs.CellView.{cell_row}
use Rattle.bsdl_lookup.specs.Controls.{controls_as}
use Rattle.bsdl_lookup.proofs.controls.controls_of.Given as goal

abbrev pub invariant-loop-row : goal.invariant-loop-row
invariant-loop-row l = (n : ℕ) → n ≤ subscript_limit → contains_by (nat_cmp n) l.controls ≡ list_any (controls_as n) (map cell_row (take l.row-index l.rows))
