use Rattle.play_model.proofs.AllMeaning.{every_schedule_all}
use Rattle.play_model.proofs.schedules.every_schedule_means_all.Goals as goal

pub returns : goal.returns
returns c = every_schedule_all
