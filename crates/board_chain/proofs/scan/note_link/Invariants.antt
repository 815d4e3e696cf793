use Rattle.std.proofs.Common.{◌≡◌, ◌+◌, ◌-◌, ◌≤◌, ◌<◌, ◌^◌, drop}
use Rattle.scan_vectors.specs.Failures.{differing, found, with_found}
use Rattle.scan_vectors.specs.Held.{bits}
use Rattle.board_chain.proofs.scan.note_link.Given as goal

-- the bits that are left add what is missing, and there is room to count them
abbrev pub invariant-loop-done : goal.invariant-loop-done
invariant-loop-done g l = record {
  within : l.done ≤ l.end;
  room : l.failures.total + (l.end - l.done) < 2 ^ 64;
  noted : with_found (differing l.command (drop (l.at + l.done) (bits l.vector)) (drop l.done (g.L.Link.register l.link l.column))) (found l.failures)
      ≡ with_found (differing l.command (drop l.at (bits l.vector)) (g.L.Link.register l.link l.column)) (found l.initial.failures);
}

abbrev pub decreases-loop-done : goal.decreases-loop-done
decreases-loop-done g l = l.end - l.done
