use Rattle.std.proofs.Common.{◌≡◌, ◌≤◌, ◌-◌, ◌++◌, length, take}
use Rattle.board_faults.specs.Faults.{ways}
use Rattle.board_faults.proofs.listed.put_ways.Given as goal

-- the ways so far
abbrev pub invariant-ways : goal.invariant-ways
invariant-ways l = record {
  within : l.k ≤ length (ways l.fault);
  put : l.all.items ≡ l.fn.all.items ++ take l.k (ways l.fault);
}

abbrev pub decreases-ways : goal.decreases-ways
decreases-ways l = length (ways l.fault) - l.k
