use Rattle.std.proofs.Common.{◌≡◌, map, drop}
use Rattle.std.specs.Prelude.{bytes_eq, codes}
use Rattle.std.specs.List.{find}
use Rattle.bsdl_values.specs.InstructionView.{opcode_row}
use Rattle.bsdl_opcodes.specs.ResetOpcode.{opcode}
use Rattle.bsdl_opcodes.proofs.reset_opcode.idcode_row.Given as goal

abbrev pub invariant-loop-row : goal.invariant-loop-row
invariant-loop-row l = find (λ o. bytes_eq (codes "IDCODE") o.name) (map opcode (map opcode_row (drop l.row-index l.rows))) ≡ find (λ o. bytes_eq (codes "IDCODE") o.name) (map opcode (map opcode_row l.rows))
