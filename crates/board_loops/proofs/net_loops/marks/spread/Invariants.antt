use Rattle.std.proofs.Common.{◌≡◌, length}
use Rattle.board_loops.specs.Marks.{IsGrownBy}
use Rattle.board_loops.proofs.net_loops.marks.spread.Given as goal

abbrev pub invariant-along : goal.invariant-along
invariant-along l = record {
  long : length l.marks ≡ length l.initial.marks;
  grown : IsGrownBy l.strings l.initial.marks l.marks;
}
