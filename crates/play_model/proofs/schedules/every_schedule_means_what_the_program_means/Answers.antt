use Rattle.play_model.proofs.SafetyLaws.{means_from_its_opening}
use Rattle.play_model.proofs.schedules.every_schedule_means_what_the_program_means.Goals as goal

pub returns : goal.returns
returns c = means_from_its_opening
