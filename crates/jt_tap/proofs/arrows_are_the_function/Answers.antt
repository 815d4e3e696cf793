use Rattle.jt_tap.proofs.Arrows.{arrows_are_the_function}
use Rattle.jt_tap.proofs.arrows_are_the_function.Goals as goal

pub returns : goal.returns
returns c = arrows_are_the_function
