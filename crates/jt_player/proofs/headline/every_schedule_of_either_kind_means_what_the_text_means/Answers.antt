use Rattle.jt_player.proofs.HeadlineLaws.{directly_of_kind, joined_of_kind}
use Rattle.jt_player.proofs.headline.every_schedule_of_either_kind_means_what_the_text_means.Goals as goal

pub returns-clause-joined : goal.returns-clause-joined
returns-clause-joined c = joined_of_kind

pub returns-clause-directly : goal.returns-clause-directly
returns-clause-directly c = directly_of_kind
