use Rattle.std.proofs.Common.{map}
use Rattle.board_plan.specs.View.{net}
use Rattle.jt_board.proofs.Bares.{bare_plan_ready}
use Rattle.jt_board.proofs.bare.bare_plan.Goals as goal

pub returns-clause-ready : goal.returns-clause-ready
returns-clause-ready c =
    bare_plan_ready c.args.n c.requires.some c.requires.most (record { devices = c.in_ok-devices.devices; nets = c.new-2.result; order = c.new-3.result })
    (λ i. record { members = c.in_ok-devices.ensures i; nets = map net (c.new-2.ensures.items i) }) c.new-3.ensures.items
