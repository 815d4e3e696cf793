use Rattle.play_model.proofs.Losses.{a_loss_names}
use Rattle.play_model.proofs.schedules.a_loss_names_the_command_in_work.Goals as goal

pub returns : goal.returns
returns c = a_loss_names
