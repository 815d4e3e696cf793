use Rattle.std.proofs.Common.{◌≡◌, ◌++◌, length}
use Rattle.board_faults.specs.Listing.{left_of}
use Rattle.board_faults.proofs.listed.next_faults.Given as goal

-- the faults so far, and those that are left
abbrev pub invariant-faults : goal.invariant-faults
invariant-faults l = left_of l.fn.left ≡ l.faults.items ++ left_of l.left

abbrev pub decreases-faults : goal.decreases-faults
decreases-faults l = length (left_of l.left)
