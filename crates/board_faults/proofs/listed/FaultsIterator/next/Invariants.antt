use Rattle.std.proofs.Common.{◌≡◌, ◌-◌, length}
use Rattle.board_faults.specs.Listing.{left_of}
use Rattle.board_faults.proofs.listed.FaultsIterator.next.Given as goal

abbrev pub invariant-loop-self : goal.invariant-loop-self
invariant-loop-self l = left_of l.self ≡ left_of l.initial.self

abbrev pub decreases-loop-self : goal.decreases-loop-self
decreases-loop-self l = length l.self.nets.now - l.self.net
