use Rattle.std.proofs.Common.{◌≡◌, ◌≤◌, drop, length, map}
use Rattle.board_faults.specs.Sights.{makes_in}
use Rattle.board_faults.specs.Together.{table}
use Rattle.board_faults.proofs.sight.table_of.Given as goal

-- the table of the pins behind this one
abbrev pub invariant-loop-k : goal.invariant-loop-k
invariant-loop-k l = record {
  within : l.k ≤ length l.pins;
  made : l.table ≡ table (makes_in (map (λ t. t.items) l.sights) (drop l.k l.pins));
}

abbrev pub decreases-loop-k : goal.decreases-loop-k
decreases-loop-k l = l.k
