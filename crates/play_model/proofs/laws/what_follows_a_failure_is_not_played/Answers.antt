use Rattle.play_model.proofs.FailedPlays.{not_played}
use Rattle.play_model.proofs.laws.what_follows_a_failure_is_not_played.Goals as goal

pub returns : goal.returns
returns c = not_played
