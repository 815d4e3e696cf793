use Rattle.std.proofs.Common.{sym, ◌∙◌}
use Rattle.board_faults.proofs.WordBits.{every_bit, no_bit}
use Rattle.board_faults.proofs.planes.same_bits.Goals as goal

pub returns-then-bit : goal.returns-then-bit
returns-then-bit c = λ k h. every_bit k h ∙ sym c.if-bit.true

pub returns-else-bit : goal.returns-else-bit
returns-else-bit c = λ k h. no_bit k ∙ sym c.if-bit.false
