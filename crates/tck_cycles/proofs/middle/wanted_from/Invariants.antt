use Rattle.std.proofs.Common.{◌≡◌, ◌+◌, drop}
use Rattle.scan_vectors.specs.Held.{bits}
use Rattle.tck_cycles.specs.Cycles.{scan_cycles}
use Rattle.tck_cycles.proofs.Places.{reads}
use Rattle.tck_cycles.proofs.middle.wanted_from.Given as goal

abbrev pub invariant-loop-place : goal.invariant-loop-place
invariant-loop-place l =
    l.wanted + reads (drop l.place (scan_cycles (bits l.vector))) ≡ reads (drop l.at (scan_cycles (bits l.vector)))
