use Rattle.std.proofs.Common.{◌≡◌, ◌++◌, List, length}
use Rattle.board_faults.specs.declared.kinds.Fault.{Fault}
use Rattle.board_faults.specs.Listing.{left_of}
use Rattle.fault_events.specs.Captures.{Noted}
use Rattle.fault_serving.specs.Sifting.{AreCounted, AreSifted, ComesBy, IsSieve}
use Rattle.fault_serving.proofs.sifting.sift.Given as goal

-- the faults so far: those that are kept, and those that are counted
abbrev pub invariant-faults : goal.invariant-faults
invariant-faults l = record {
  first : List Fault;
  are : left_of l.fn.left ≡ first ++ left_of l.left;
  sifted : (ns : List Noted) → IsSieve ns l.sieve → AreSifted (ComesBy l.sieve ns) first l.kept.items l.counts;
  counted : AreCounted l.sieve.counting l.counts;
}

abbrev pub decreases-faults : goal.decreases-faults
decreases-faults l = length (left_of l.left)
