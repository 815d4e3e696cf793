use Rattle.jt_tap.proofs.Arrows.{five_ones_reset}
use Rattle.jt_tap.proofs.five_ones_reset.Goals as goal

pub returns : goal.returns
returns c = five_ones_reset
