use Rattle.play_model.proofs.DescribedPlays.{one_state}
use Rattle.play_model.proofs.legal.the_state_at_rest_is_one.Goals as goal

pub returns : goal.returns
returns c = one_state
