use Rattle.play_model.proofs.Losses.{a_new_play_means}
use Rattle.play_model.proofs.schedules.a_new_play_means_from_its_opening.Goals as goal

pub returns : goal.returns
returns c = a_new_play_means
