use Rattle.jt_board.proofs.TextLaws.{ready_made}
use Rattle.jt_board.proofs.from_text.plan_of_table.Goals as goal

pub returns-clause-ready : goal.returns-clause-ready
returns-clause-ready c =
    let made = c.plan_of_table.ensures in
    ready_made c.plan_of_table.result made.fits made.said made.loops made.ordered
