use Rattle.std.proofs.Common.{◌≡◌, map}
use Rattle.std.specs.Prelude.{reverse}
use Rattle.std.specs.List.{list_any}
use Rattle.bsdl_values.specs.InstructionValues.{bit}
use Rattle.bsdl_values.specs.Left.{digits_left}
use Rattle.bsdl_values.specs.InstructionView.{patterns}
use Rattle.bsdl_device.specs.Opcodes.{matches, x_as_0}
use Rattle.bsdl_opcodes.proofs.reset_opcode.is_named.Given as goal

abbrev pub invariant-loop-digits : goal.invariant-loop-digits
invariant-loop-digits l =
    list_any (λ p. matches p (x_as_0 (reverse (map bit l.latch)))) (patterns (digits_left l.digits-iterator))
    ≡ list_any (λ p. matches p (x_as_0 (reverse (map bit l.latch)))) (patterns l.row.patterns)
