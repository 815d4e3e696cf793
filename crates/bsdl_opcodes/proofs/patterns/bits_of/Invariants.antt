use Rattle.std.proofs.Common.{◌≡◌, take, length}
use Rattle.bsdl_device.specs.Opcodes.{x_as_0}
use Rattle.bsdl_values.specs.InstructionValues.{pattern_of}
use Rattle.bsdl_opcodes.proofs.patterns.bits_of.Given as goal

abbrev pub invariant-loop-i : goal.invariant-loop-i
invariant-loop-i l = record { len : length l.bits ≡ l.len; front : take l.i l.bits ≡ take l.i (x_as_0 (pattern_of l.digits)) }
