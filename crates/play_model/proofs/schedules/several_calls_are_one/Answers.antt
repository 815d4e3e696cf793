use Rattle.play_model.proofs.Ends.{several_calls}
use Rattle.play_model.proofs.schedules.several_calls_are_one.Goals as goal

pub returns : goal.returns
returns c = several_calls
