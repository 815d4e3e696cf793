use Rattle.std.proofs.Common.{◌<◌, length}
use Rattle.jt_bits.proofs.Pieces.{Reading}
use Rattle.jt_bits.proofs.digits.last_piece.Given as goal

abbrev pub invariant-loop-digit : goal.invariant-loop-digit
invariant-loop-digit l = record {
  some : 0 < l.left;
  reading : Reading l.digits l.rest l.text l.left;
}

abbrev pub decreases-loop-digit : goal.decreases-loop-digit
decreases-loop-digit l = length l.rest
