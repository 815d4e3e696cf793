use Rattle.std.proofs.Common.{◌≡◌, false, take}
use Rattle.std.specs.List.{list_any}
use Rattle.bsdl_device.specs.Opcodes.{matches}
use Rattle.chip_instructions.proofs.decoding.has_opcode.Given as goal

abbrev pub invariant-loop-pattern : goal.invariant-loop-pattern
invariant-loop-pattern l = list_any (λ p. matches p l.latch) (take l.pattern-index l.row.patterns) ≡ false
