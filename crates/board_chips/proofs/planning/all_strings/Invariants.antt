use Rattle.std.proofs.Common.{map}
use Rattle.board_plan.specs.View.{member as planned_member, net as planned_net}
use Rattle.board_chips.proofs.PlanningLaws.{AreWiredSoFar}
use Rattle.board_chips.proofs.planning.all_strings.Given as goal

abbrev pub invariant-loop-place : goal.invariant-loop-place
invariant-loop-place l = AreWiredSoFar (record { members = map planned_member l.devices; nets = map planned_net l.nets }) l.place l.all.items
