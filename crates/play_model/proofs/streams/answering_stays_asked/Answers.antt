use Rattle.play_model.proofs.Agree.{stays_asked as law}
use Rattle.play_model.proofs.streams.answering_stays_asked.Goals as goal

pub returns : goal.returns
returns c = law
