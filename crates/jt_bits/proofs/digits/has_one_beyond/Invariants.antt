use Rattle.std.proofs.Common.{◌≡◌, length}
use Rattle.jt_bits.specs.Hex.{has_one_beyond}
use Rattle.jt_bits.proofs.digits.has_one_beyond.Given as goal

abbrev pub invariant-loop-digit : goal.invariant-loop-digit
invariant-loop-digit l = has_one_beyond l.left l.rest ≡ has_one_beyond l.n l.digits

abbrev pub decreases-loop-digit : goal.decreases-loop-digit
decreases-loop-digit l = length l.rest
