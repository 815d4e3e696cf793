use Rattle.play_model.proofs.Hearing.{hearing as law}
use Rattle.play_model.proofs.streams.hearing_is_the_history.Goals as goal

pub returns : goal.returns
returns c = law
