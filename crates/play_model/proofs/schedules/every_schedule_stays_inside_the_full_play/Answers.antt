use Rattle.play_model.proofs.SafetyLaws.{every_schedule_inside}
use Rattle.play_model.proofs.schedules.every_schedule_stays_inside_the_full_play.Goals as goal

pub returns : goal.returns
returns c = every_schedule_inside
