use Rattle.std.proofs.Common.{◌≤◌, ◌-◌}
use Rattle.board_tables.specs.WordView.{texts_of}
use Rattle.board_description.specs.Kept.{NoNames}
use Rattle.board_description.proofs.registers.no_names.Given as goal

abbrev pub invariant-loop-k : goal.invariant-loop-k
invariant-loop-k l = record {
  within : l.k ≤ l.count;
  names : NoNames l.k (texts_of l.names.items);
}

abbrev pub decreases-loop-k : goal.decreases-loop-k
decreases-loop-k l = l.count - l.k
