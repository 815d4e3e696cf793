use Rattle.play_model.proofs.Hearing.{fresh_agrees as law}
use Rattle.play_model.proofs.streams.fresh_agrees.Goals as goal

pub returns : goal.returns
returns c = law
