use Rattle.std.proofs.Common.{◌≡◌, map, drop}
use Rattle.std.specs.List.{list_all}
use Rattle.bsdl_values.specs.InstructionView.{opcode_row}
use Rattle.bsdl_rules.specs.Sizes.{is_len}
use Rattle.bsdl_rules.proofs.lengths.opcodes_fit.Given as goal

abbrev pub invariant-loop-row : goal.invariant-loop-row
invariant-loop-row l = list_all (λ r. list_all (is_len l.size) r.patterns) (map opcode_row (drop l.row-index l.rows)) ≡ list_all (λ r. list_all (is_len l.size) r.patterns) (map opcode_row l.rows)
