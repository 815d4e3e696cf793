use Rattle.jt_player.proofs.HeadlineLaws.{pass_or_fail}
use Rattle.jt_player.proofs.headline.direct_plays_pass_or_fail.Goals as goal

pub returns : goal.returns
returns c = pass_or_fail
