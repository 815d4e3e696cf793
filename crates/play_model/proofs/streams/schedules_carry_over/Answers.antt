use Rattle.play_model.proofs.ScheduleSteps.{carry_over}
use Rattle.play_model.proofs.streams.schedules_carry_over.Goals as goal

pub returns : goal.returns
returns c = carry_over
