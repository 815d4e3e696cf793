use Rattle.std.proofs.Common.{◌≡◌, ℕ, map, take}
use Rattle.std.specs.Prelude.{Some}
use Rattle.bsdl_values.specs.InstructionView.{opcode_row}
use Rattle.bsdl_rules.specs.Twice.{inside}
use Rattle.bsdl_rules.specs.NamingView.{named}
use Rattle.bsdl_rules.proofs.again.opcode_names.Given as goal

abbrev pub invariant-loop-row : goal.invariant-loop-row
invariant-loop-row l = (start : ℕ) → map (named (Some start)) l.names.items ≡ map (λ r. inside start r.name) (map opcode_row (take l.row-index l.rows))
