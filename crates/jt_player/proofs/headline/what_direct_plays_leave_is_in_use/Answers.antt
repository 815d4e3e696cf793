use Rattle.jt_player.proofs.HeadlineLaws.{directly_in_use, runs_in_use}
use Rattle.jt_player.proofs.headline.what_direct_plays_leave_is_in_use.Goals as goal

pub returns-clause-plays : goal.returns-clause-plays
returns-clause-plays c = directly_in_use

pub returns-clause-runs : goal.returns-clause-runs
returns-clause-runs c = runs_in_use
