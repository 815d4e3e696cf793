use Rattle.std.proofs.Common.{◌≡◌, ◌≤◌, drop, length}
use Rattle.fault_events.specs.Endings.{all_with}
use Rattle.fault_events.proofs.nets.all_with.Given as goal

abbrev pub invariant-loop-k : goal.invariant-loop-k
invariant-loop-k l = record { inside : l.k ≤ length l.notes; all : l.all ≡ all_with (drop l.k l.notes) l.fn.rest }

abbrev pub decreases-loop-k : goal.decreases-loop-k
decreases-loop-k l = l.k
