use Rattle.std.proofs.Common.{◌≡◌, ℕ}
use Rattle.std.specs.List.{list_all}
use Rattle.bsdl_values.specs.Left.{digits_left}
use Rattle.bsdl_values.specs.InstructionView.{patterns}
use Rattle.bsdl_rules.specs.Lengths.{has_len}
use Rattle.bsdl_rules.specs.Sizes.{IsSize}
use Rattle.bsdl_sizes.proofs.lengths.all_have_len.Given as goal

abbrev pub invariant-loop-digits : goal.invariant-loop-digits
invariant-loop-digits l =
    (n : ℕ) → IsSize l.size n → list_all (has_len n) (patterns (digits_left l.digits-iterator)) ≡ list_all (has_len n) (patterns l.patterns)
