use Rattle.board_loops.proofs.NumberLaws.{lowered_no_loop}
use Rattle.board_loops.proofs.net_loops.settle_order.Goals as goal

pub returns-then-is_each_lowered : goal.returns-then-is_each_lowered
returns-then-is_each_lowered c =
    (lowered_no_loop c.args.strings.now c.deref.result.now (c.is_each_lowered.ensures c.if-is_each_lowered.true), c.in_ok-order.ensures)
