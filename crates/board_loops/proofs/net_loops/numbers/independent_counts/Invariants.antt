use Rattle.std.proofs.Common.{◌≡◌, ◌<◌, ℕ, length, slice_index}
use Rattle.board_loops.specs.Marks.{IsCount}
use Rattle.board_loops.proofs.net_loops.numbers.independent_counts.Given as goal

abbrev pub invariant-loop-net : goal.invariant-loop-net
invariant-loop-net l = record {
  long : length l.counts.items ≡ l.net;
  counts : (net : ℕ) → net < l.net → IsCount l.strings l.nets net (slice_index l.counts.items net);
}
