use Rattle.jt_board.proofs.CircleLaws.{loops_are_circles}
use Rattle.jt_board.proofs.circle_laws.loops_are_circles.Goals as goal

pub returns : goal.returns
returns c = loops_are_circles
