use Rattle.std.proofs.Common.{◌≡◌, drop}
use Rattle.scan_vectors.specs.Held.{bits}
use Rattle.scan_vectors.specs.Vector.{wanted_bits}
use Rattle.scan_vectors.proofs.judging.next_wanted.Given as goal

abbrev pub invariant-loop-i : goal.invariant-loop-i
invariant-loop-i l = wanted_bits (drop l.from (bits l.vector)) ≡ wanted_bits (drop l.i (bits l.vector))
