use Rattle.std.proofs.Common.{◌≡◌, ℕ, drop, map}
use Rattle.bsdl_values.specs.InstructionView.{opcode_row}
use Rattle.bsdl_rules.specs.Sizes.{IsSize}
use Rattle.bsdl_sizes.specs.Lengths.{unfit_opcode}
use Rattle.bsdl_sizes.proofs.lengths.unfit_by_size.Given as goal

abbrev pub invariant-loop-row : goal.invariant-loop-row
invariant-loop-row l = (n : ℕ) → IsSize l.size n → unfit_opcode n (map opcode_row (drop l.row-index l.rows)) ≡ unfit_opcode n (map opcode_row l.rows)
