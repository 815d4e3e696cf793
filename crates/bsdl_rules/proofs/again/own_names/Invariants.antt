use Rattle.std.proofs.Common.{◌≡◌, ◌++◌, ℕ, map, drop}
use Rattle.std.specs.Prelude.{Some}
use Rattle.std.specs.List.{flat_map}
use Rattle.bsdl_values.specs.InstructionView.{access_row}
use Rattle.bsdl_rules.specs.Twice.{inside}
use Rattle.bsdl_rules.specs.NamingView.{named}
use Rattle.bsdl_rules.proofs.again.own_names.Given as goal

abbrev pub invariant-loop-row : goal.invariant-loop-row
invariant-loop-row l =
    (start : ℕ)
    → map (named (Some start)) l.names.items ++ map (λ i. inside start i.name) (flat_map (λ r. r.instrs) (map access_row (drop l.row-index l.rows)))
    ≡ map (λ i. inside start i.name) (flat_map (λ r. r.instrs) (map access_row l.rows))
