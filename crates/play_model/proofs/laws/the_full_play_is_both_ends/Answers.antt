use Rattle.play_model.proofs.PlayLaws.{full_play_is_both_ends}
use Rattle.play_model.proofs.laws.the_full_play_is_both_ends.Goals as goal

pub returns : goal.returns
returns c = full_play_is_both_ends
