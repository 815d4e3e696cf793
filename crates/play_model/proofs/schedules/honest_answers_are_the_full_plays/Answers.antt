use Rattle.play_model.proofs.HonestLinks.{honest_answers}
use Rattle.play_model.proofs.schedules.honest_answers_are_the_full_plays.Goals as goal

pub returns : goal.returns
returns c = honest_answers
