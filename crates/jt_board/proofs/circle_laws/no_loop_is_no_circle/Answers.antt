use Rattle.jt_board.proofs.PathLaws.{no_loop_over_nets}
use Rattle.jt_board.proofs.circle_laws.no_loop_is_no_circle.Goals as goal

pub returns : goal.returns
returns c = no_loop_over_nets
