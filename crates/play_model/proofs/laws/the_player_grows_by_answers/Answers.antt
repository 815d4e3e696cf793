use Rattle.play_model.proofs.PlayLaws.{player_grows}
use Rattle.play_model.proofs.laws.the_player_grows_by_answers.Goals as goal

pub returns : goal.returns
returns c = player_grows
