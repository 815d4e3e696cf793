use Rattle.std.proofs.Common.{◌≡◌, ◌-◌, drop, length}
use Rattle.scan_vectors.specs.Held.{bits}
use Rattle.scan_vectors.specs.Vector.{wanted_bits}
use Rattle.player.specs.WordAhead.{IsAhead}
use Rattle.player.proofs.word_ahead.WordAhead.expected.Given as goal

-- no bit before the present one is wanted
abbrev pub invariant-loop-self : goal.invariant-loop-self
invariant-loop-self l = record {
  known : IsAhead (bits l.vector) l.self;
  next : wanted_bits (drop l.from (bits l.vector)) ≡ wanted_bits (drop l.i (bits l.vector));
}

abbrev pub decreases-loop-self : goal.decreases-loop-self
decreases-loop-self l = length (bits l.vector) - l.i
