use Rattle.std.proofs.Common.{◌≡◌, ◌<◌, ◌≤◌, ℕ, None, length, drop}
use Rattle.std.specs.Prelude.{slice_index_or}
use Rattle.boundary.specs.Cells.{driver_from}
use Rattle.boundary.proofs.drivers.Given as goal

abbrev pub invariant-loop-k : goal.invariant-loop-k
invariant-loop-k l = record {
  below : l.k ≤ length l.list;
  long : length l.table.items ≡ l.ports;
  each : (p : ℕ) → p < length l.table.items → slice_index_or l.table.items p None ≡ driver_from p l.k (drop l.k l.list);
}

abbrev pub decreases-loop-k : goal.decreases-loop-k
decreases-loop-k l = l.k
