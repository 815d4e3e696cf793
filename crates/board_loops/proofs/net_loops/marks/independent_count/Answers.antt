use Rattle.std.proofs.Common.{ap, ◌∙◌}
use Rattle.board_loops.specs.Marks.{unmarked}
use Rattle.board_loops.proofs.net_loops.marks.independent_count.Goals as goal

pub returns : goal.returns
returns c = record {
  marks = c.in_ok-marks.marks.items;
  long = c.in_ok-marks.ensures.long;
  dependents = c.in_ok-marks.ensures.marks;
  counted = c.unmarked_count.ensures ∙ ap unmarked c.deref.ensures.value;
}
