use Rattle.std.proofs.Common.{List}
use Rattle.bsdl_device.specs.declared.Cell.{Cell}
use Rattle.boundary.specs.Controls.{AreGroups, IsControlled}
use Rattle.boundary.proofs.controls.by_groups.Given as goal

abbrev pub invariant-loop-i : goal.invariant-loop-i
invariant-loop-i l = (cells : List Cell) → AreGroups cells l.groups → IsControlled cells l.bits l.first l.words
