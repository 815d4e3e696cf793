use Rattle.play_model.proofs.ScheduleSamples.{connections_open}
use Rattle.play_model.proofs.schedules.connections_must_be_open.Goals as goal

pub returns : goal.returns
returns c = connections_open
