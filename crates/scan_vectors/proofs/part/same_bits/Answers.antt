use Rattle.std.proofs.Common.{sym, ◌∙◌}
use Rattle.scan_vectors.proofs.Words.{zero_bits, one_bits}
use Rattle.scan_vectors.proofs.part.same_bits.Goals as goal

pub returns-then-bit : goal.returns-then-bit
returns-then-bit c = λ j h. one_bits j h ∙ sym c.if-bit.true

pub returns-else-bit : goal.returns-else-bit
returns-else-bit c = λ j h. zero_bits j ∙ sym c.if-bit.false
