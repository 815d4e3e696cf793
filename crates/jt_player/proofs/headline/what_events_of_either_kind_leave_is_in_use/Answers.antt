use Rattle.jt_player.proofs.HeadlineLaws.{in_use_of_kind}
use Rattle.jt_player.proofs.headline.what_events_of_either_kind_leave_is_in_use.Goals as goal

pub returns : goal.returns
returns c = in_use_of_kind
