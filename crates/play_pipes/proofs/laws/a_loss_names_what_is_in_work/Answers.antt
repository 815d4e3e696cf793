use Rattle.play_pipes.proofs.Inside.{loss_names}
use Rattle.play_pipes.proofs.laws.a_loss_names_what_is_in_work.Goals as goal

pub returns : goal.returns
returns c = loss_names
