use Rattle.jt_player.proofs.HeadlineLaws.{run_ends}
use Rattle.jt_player.proofs.headline.every_run_ends.Goals as goal

pub returns : goal.returns
returns c = run_ends
