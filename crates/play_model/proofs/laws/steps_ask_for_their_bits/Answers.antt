use Rattle.play_model.proofs.PlayLaws.{steps_ask}
use Rattle.play_model.proofs.laws.steps_ask_for_their_bits.Goals as goal

pub returns : goal.returns
returns c = steps_ask
