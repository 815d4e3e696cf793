use Rattle.std.proofs.Common.{List, map, ap, subst}
use Rattle.board_plan.specs.declared.plan.PlannedDevice.{PlannedDevice}
use Rattle.board_plan.specs.declared.plan.PlannedNet.{PlannedNet}
use Rattle.board_plan.specs.Planned.{Wiring}
use Rattle.board_plan.specs.View.{member as planned_member, net as planned_net}
use Rattle.board_faults.specs.Sights.{AreSights}
use Rattle.play_coverage.proofs.judging.bench_for.Goals as goal

pub returns : goal.returns
returns c = record {
  board = ap (λ (w : Wiring). w.members) c.in_ok-board.ensures.board;
  sights =
      subst (λ (ds : List PlannedDevice). AreSights (map planned_member ds) (map planned_net c.args.plan.now.nets.items) c.in_ok-sights.sights) c.deref.ensures.value
      (subst (λ (ns : List PlannedNet). AreSights (map planned_member c.deref.result.now) (map planned_net ns) c.in_ok-sights.sights) c.deref-2.ensures.value
      c.in_ok-sights.ensures);
}
