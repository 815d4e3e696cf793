use Rattle.jt_player.proofs.HeadlineLaws.{directly, joined}
use Rattle.jt_player.proofs.headline.every_schedule_means_what_the_text_means.Goals as goal

pub returns-clause-joined : goal.returns-clause-joined
returns-clause-joined c = joined

pub returns-clause-directly : goal.returns-clause-directly
returns-clause-directly c = directly
