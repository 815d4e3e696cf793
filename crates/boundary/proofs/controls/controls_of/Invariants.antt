use Rattle.boundary.specs.Controls.{AreGroups}
use Rattle.boundary.proofs.controls.controls_of.Given as goal

abbrev pub invariant-loop-k : goal.invariant-loop-k
invariant-loop-k l = AreGroups l.list l.groups.items
