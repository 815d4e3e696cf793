use Rattle.std.proofs.Common.{◌≡◌, ℕ, drop, map}
use Rattle.bsdl_values.specs.InstructionView.{access_row}
use Rattle.bsdl_rules.specs.Sizes.{IsSize}
use Rattle.bsdl_sizes.specs.Lengths.{unfit_instr}
use Rattle.bsdl_sizes.proofs.lengths.unfit_instr_by_size.Given as goal

abbrev pub invariant-loop-row : goal.invariant-loop-row
invariant-loop-row l = (n : ℕ) → IsSize l.boundary n → unfit_instr n (map access_row (drop l.row-index l.rows)) ≡ unfit_instr n (map access_row l.rows)
