use Rattle.std.proofs.Common.{◌<◌, ◌++◌, ◌+◌, Option, None, false, length, map, take, drop, set, ap, ◌∙◌, arith}
use Rattle.std.proofs.lemmas.List.{length-set}
use Rattle.board_plan.specs.View.{net as planned_net}
use Rattle.play_model.specs.declared.ending.Ending.{Ending}
use Rattle.board_faults.specs.declared.kinds.Way.TheVariants as way
use Rattle.fault_events.specs.Blocks.{noted_in}
use Rattle.fault_serving.specs.Serving.{judged_on}
use Rattle.fault_serving.proofs.OnePlay.{judged_step}
use Rattle.fault_serving.proofs.serving.judge_block.Goals as goal

pub ways-preserved : goal.ways-preserved
ways-preserved c =
    let nets = map planned_net c.args.nets.now in
    let more = noted_in c.args.telling.now.block in
    let ws = c.args.ways.now in
    let es = c.ways.endings in
    let k = c.ways.k in
    let i = c.ways.invariant in
    let inside : k < length ws = omega (arith, c.ways-test.true) in
    let there : k < length es = omega (arith, inside, i.long) in
    let next = c.ending_then.result in
    record {
      long = length-set es k next ∙ i.long;
      judged = ap (λ (x : Option Ending). take (k + 1) (set es k x) ++ judged_on nets more (drop (k + 1) ws) (drop (k + 1) (set es k x))) c.ending_then.ensures
          ∙ judged_step nets more ws es k (way.Open 0 0 false) None inside there
          ∙ i.judged;
    }
