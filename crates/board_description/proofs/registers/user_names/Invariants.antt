use Rattle.std.proofs.Common.{◌≤◌, drop, length}
use Rattle.board_tables.specs.WordView.{texts_of}
use Rattle.board_description.specs.Kept.{NamesUsers}
use Rattle.board_description.proofs.registers.user_names.Given as goal

-- those of the instructions from a place on
abbrev pub invariant-loop-i : goal.invariant-loop-i
invariant-loop-i l = record {
  within : l.i ≤ length l.accesses;
  names : NamesUsers l.device.users (drop l.i l.accesses) (texts_of l.names.items);
}

abbrev pub decreases-loop-i : goal.decreases-loop-i
decreases-loop-i l = l.i
