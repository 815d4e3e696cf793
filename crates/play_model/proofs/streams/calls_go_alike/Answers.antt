use Rattle.play_model.proofs.ScheduleSteps.{calls_alike}
use Rattle.play_model.proofs.streams.calls_go_alike.Goals as goal

pub returns : goal.returns
returns c = calls_alike
