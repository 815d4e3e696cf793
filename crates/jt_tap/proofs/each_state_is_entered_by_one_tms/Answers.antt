use Rattle.jt_tap.proofs.Arrows.{entered_by_one}
use Rattle.jt_tap.proofs.each_state_is_entered_by_one_tms.Goals as goal

pub returns : goal.returns
returns c = entered_by_one
