use Rattle.play_model.proofs.StepLaws.{step_means}
use Rattle.play_model.proofs.legal.each_legal_step_plays_as_it_means.Goals as goal

pub returns : goal.returns
returns c = step_means
