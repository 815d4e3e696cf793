use Rattle.std.proofs.Common.{◌≡◌, ◌++◌, ℕ, map, take}
use Rattle.std.specs.Prelude.{Some}
use Rattle.bsdl_values.specs.InstructionView.{instr}
use Rattle.bsdl_rules.specs.Twice.{inside}
use Rattle.bsdl_rules.specs.NamingView.{named}
use Rattle.bsdl_rules.proofs.again.add_instrs.Given as goal

abbrev pub invariant-loop-instr : goal.invariant-loop-instr
invariant-loop-instr l =
    (start : ℕ)
    → map (named (Some start)) l.names.items ≡ map (named (Some start)) l.initial.names.items ++ map (λ i. inside start i.name) (map instr (take l.instr-index l.instrs))
