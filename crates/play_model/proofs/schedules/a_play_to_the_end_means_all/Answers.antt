use Rattle.play_model.proofs.AllMeaning.{plays_all}
use Rattle.play_model.proofs.schedules.a_play_to_the_end_means_all.Goals as goal

pub returns : goal.returns
returns c = plays_all
