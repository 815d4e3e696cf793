use Rattle.std.proofs.Common.{◌≤◌, length}
use Rattle.scan_vectors.specs.Held.{bits}
use Rattle.board_reasons.proofs.PartStarts.{NoneFrom}
use Rattle.board_reasons.proofs.vectors.place_in.Given as goal

-- no bit from the place on is the one that is looked for
abbrev pub invariant-loop-end : goal.invariant-loop-end
invariant-loop-end l = record {
  inside : l.end ≤ length (bits l.vector);
  none : NoneFrom (bits l.vector) l.end l.part l.bit;
}

abbrev pub decreases-loop-end : goal.decreases-loop-end
decreases-loop-end l = l.end
