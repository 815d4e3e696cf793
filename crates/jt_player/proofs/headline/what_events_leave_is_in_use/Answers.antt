use Rattle.jt_player.proofs.HeadlineLaws.{in_use_again}
use Rattle.jt_player.proofs.headline.what_events_leave_is_in_use.Goals as goal

pub returns : goal.returns
returns c = in_use_again
