use Rattle.std.proofs.Common.{◌≡◌, map, take}
use Rattle.bsdl_values.specs.InstructionValues.{bit}
use Rattle.bsdl_opcodes.proofs.patterns.pattern_of.Given as goal

abbrev pub invariant-loop-digit : goal.invariant-loop-digit
invariant-loop-digit l = l.bits.items ≡ map bit (take l.digit-index l.digits)
