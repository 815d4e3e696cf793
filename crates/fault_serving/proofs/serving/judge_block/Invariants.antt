use Rattle.std.proofs.Common.{◌≡◌, ◌++◌, length, map, take, drop}
use Rattle.board_plan.specs.View.{net as planned_net}
use Rattle.fault_events.specs.Blocks.{noted_in}
use Rattle.fault_serving.specs.Serving.{judged_on}
use Rattle.fault_serving.proofs.serving.judge_block.Given as goal

-- the ways before this one are judged
abbrev pub invariant-ways : goal.invariant-ways
invariant-ways l =
    let nets = map planned_net l.nets in
    let more = noted_in l.telling.block in
    record {
      long : length l.endings ≡ length l.ways;
      judged : take l.k l.endings ++ judged_on nets more (drop l.k l.ways) (drop l.k l.endings) ≡ judged_on nets more l.ways l.fn.endings;
    }
