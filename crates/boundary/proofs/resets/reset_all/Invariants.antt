use Rattle.std.proofs.Common.{◌≡◌, ◌<◌, ◌≤◌, ◌-◌, ℕ, length, if◌then◌else◌}
use Rattle.jt_bits.specs.Words.{bit_of}
use Rattle.boundary.proofs.resets.reset_all.Given as goal

abbrev pub invariant-loop-at : goal.invariant-loop-at
invariant-loop-at l = record {
  within : l.at ≤ l.len;
  long : length l.update ≡ length l.initial.update;
  each : (i : ℕ) → i < l.at
      → bit_of l.update i ≡ (if bit_of l.marked i then bit_of l.disabling i else bit_of l.initial.update i);
  rest : (i : ℕ) → i < length l.initial.update → l.at ≤ i → bit_of l.update i ≡ bit_of l.initial.update i;
}

abbrev pub decreases-loop-at : goal.decreases-loop-at
decreases-loop-at l = l.len - l.at
