use Rattle.board_loops.proofs.OnceLaws.{each_once}
use Rattle.board_loops.proofs.net_loops.orders_have_each_once.Goals as goal

pub returns : goal.returns
returns c = each_once
