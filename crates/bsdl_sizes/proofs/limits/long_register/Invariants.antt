use Rattle.std.proofs.Common.{◌≡◌, drop, map}
use Rattle.bsdl_values.specs.InstructionView.{access_row}
use Rattle.bsdl_sizes.specs.Limits.{long_register}
use Rattle.bsdl_sizes.proofs.limits.long_register.Given as goal

abbrev pub invariant-loop-row : goal.invariant-loop-row
invariant-loop-row l = long_register (map access_row (drop l.row-index l.rows)) ≡ long_register (map access_row l.rows)
