use Rattle.std.proofs.Common.{◌≡◌, ◌<◌, ◌≤◌, ℕ, length, drop}
use Rattle.jt_bits.specs.Words.{bit_of}
use Rattle.boundary.specs.Cells.{disabling_value}
use Rattle.boundary.proofs.disabling_values.Given as goal

abbrev pub invariant-loop-k : goal.invariant-loop-k
invariant-loop-k l = record {
  below : l.k ≤ length l.list;
  long : length l.bits ≡ length l.list;
  each : (j : ℕ) → j < length l.list → bit_of l.bits j ≡ disabling_value j (drop l.k l.list);
}

abbrev pub decreases-loop-k : goal.decreases-loop-k
decreases-loop-k l = l.k
