use Rattle.std.proofs.Common.{◌≡◌}
use Rattle.std.specs.List.{list_all}
use Rattle.bsdl_values.specs.Left.{digits_left}
use Rattle.bsdl_values.specs.InstructionView.{patterns}
use Rattle.bsdl_rules.specs.Sizes.{is_len}
use Rattle.bsdl_rules.proofs.lengths.all_have_len.Given as goal

abbrev pub invariant-loop-digits : goal.invariant-loop-digits
invariant-loop-digits l = list_all (is_len l.size) (patterns (digits_left l.digits-iterator)) ≡ list_all (is_len l.size) (patterns l.patterns)
