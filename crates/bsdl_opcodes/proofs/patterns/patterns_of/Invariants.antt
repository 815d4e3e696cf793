use Rattle.std.proofs.Common.{◌≡◌, ◌++◌}
use Rattle.bsdl_values.specs.Left.{digits_left}
use Rattle.bsdl_values.specs.InstructionView.{patterns}
use Rattle.bsdl_opcodes.proofs.patterns.patterns_of.Given as goal

abbrev pub invariant-loop-digits : goal.invariant-loop-digits
invariant-loop-digits l = l.all.items ++ patterns (digits_left l.digits-iterator) ≡ patterns l.patterns
