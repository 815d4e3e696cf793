use Rattle.std.proofs.Common.{◌≡◌, drop}
use Rattle.scan_vectors.specs.Held.{bits}
use Rattle.fault_events.specs.Marks.{marked}
use Rattle.fault_events.proofs.marks.mark_all.Given as goal

abbrev pub invariant-loop-k : goal.invariant-loop-k
invariant-loop-k l = marked (bits l.vector) l.k (drop l.k l.numbers) l.notes ≡ marked (bits l.vector) 0 l.numbers l.fn.notes
