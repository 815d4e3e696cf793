use Rattle.std.proofs.Common.{◌≡◌, ℕ, drop, map}
use Rattle.bsdl_values.specs.InstructionView.{instr}
use Rattle.bsdl_rules.specs.Sizes.{IsSize}
use Rattle.bsdl_sizes.specs.Lengths.{unfit_among}
use Rattle.bsdl_sizes.proofs.lengths.unfit_among.Given as goal

abbrev pub invariant-loop-instr : goal.invariant-loop-instr
invariant-loop-instr l =
    (n : ℕ) → IsSize l.size n → unfit_among l.is_empty n (map instr (drop l.instr-index l.instrs)) ≡ unfit_among l.is_empty n (map instr l.instrs)
