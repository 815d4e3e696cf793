use Rattle.std.proofs.Common.{◌≡◌, ◌<◌, ◌≤◌, ◌-◌, ℕ, length}
use Rattle.jt_bits.specs.Words.{bit_of}
use Rattle.boundary.specs.Masks.{chosen}
use Rattle.boundary.proofs.captures.capture_all.Given as goal

abbrev pub invariant-loop-at : goal.invariant-loop-at
invariant-loop-at l = record {
  within : l.at ≤ l.len;
  long : length l.stage ≡ length l.initial.stage;
  each : (i : ℕ) → i < l.at
      → bit_of l.stage i
      ≡ chosen (bit_of l.masks.sighted i) (bit_of l.masks.inner i) (bit_of l.seen i) (bit_of l.held i) (bit_of l.core i);
}

abbrev pub decreases-loop-at : goal.decreases-loop-at
decreases-loop-at l = l.len - l.at
