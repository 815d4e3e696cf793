use Rattle.std.proofs.Common.{◌*◌}
use Rattle.jt_bits.proofs.OrderLaws.{SameBelow}
use Rattle.jt_bits.proofs.order.by_words.Given as goal

abbrev pub invariant-loop-k : goal.invariant-loop-k
invariant-loop-k l = SameBelow (64 * l.k) l.one l.other
