use Rattle.play_model.proofs.Agree.{agree as law}
use Rattle.play_model.proofs.streams.streams_agree.Goals as goal

pub returns : goal.returns
returns c = law
