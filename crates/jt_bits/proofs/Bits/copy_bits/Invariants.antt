use Rattle.std.proofs.Common.{◌-◌, ◌≤◌}
use Rattle.jt_bits.proofs.Runs.{Copied}
use Rattle.jt_bits.proofs.Bits.copy_bits.Given as goal

abbrev pub invariant-loop-done : goal.invariant-loop-done
invariant-loop-done l = record {
  few : l.done ≤ l.n;
  so_far : Copied l.initial.self l.self l.from l.at l.from_at l.done;
}

abbrev pub decreases-loop-done : goal.decreases-loop-done
decreases-loop-done l = l.n - l.done
