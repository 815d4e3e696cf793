use Rattle.std.proofs.Common.{◌≡◌, ℕ, map, drop}
use Rattle.std.specs.List.{list_all}
use Rattle.bsdl_values.specs.InstructionView.{access_row}
use Rattle.bsdl_rules.specs.Lengths.{access_fits}
use Rattle.bsdl_rules.specs.Sizes.{IsSize}
use Rattle.bsdl_rules.proofs.lengths.accesses_fit.Given as goal

abbrev pub invariant-loop-row : goal.invariant-loop-row
invariant-loop-row l = (n : ℕ) → IsSize l.boundary n → list_all (access_fits n) (map access_row (drop l.row-index l.rows)) ≡ list_all (access_fits n) (map access_row l.rows)
