use Rattle.std.proofs.Common.{◌≡◌, length}
use Rattle.board_loops.specs.Marks.{IsGrownBy, unmarked}
use Rattle.board_loops.proofs.net_loops.marks.close.Given as goal

abbrev pub invariant-rounds : goal.invariant-rounds
invariant-rounds l = record {
  long : length l.marks ≡ length l.initial.marks;
  grown : IsGrownBy l.strings l.initial.marks l.marks;
}

abbrev pub decreases-rounds : goal.decreases-rounds
decreases-rounds l = unmarked l.marks
