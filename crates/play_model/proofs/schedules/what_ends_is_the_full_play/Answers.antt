use Rattle.play_model.proofs.SafetyLaws.{whole_at_end}
use Rattle.play_model.proofs.schedules.what_ends_is_the_full_play.Goals as goal

pub returns : goal.returns
returns c = whole_at_end
