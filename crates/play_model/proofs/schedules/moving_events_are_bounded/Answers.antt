use Rattle.play_model.proofs.Ends.{moving_bounded}
use Rattle.play_model.proofs.schedules.moving_events_are_bounded.Goals as goal

pub returns : goal.returns
returns c = moving_bounded
