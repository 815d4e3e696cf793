use Rattle.play_model.proofs.AllFailures.{first_of_all}
use Rattle.play_model.proofs.schedules.the_first_of_all_failures_is_the_first.Goals as goal

pub returns : goal.returns
returns c = first_of_all
