use Rattle.play_model.proofs.Ends.{fair_drivers_end}
use Rattle.play_model.proofs.schedules.fair_drivers_end.Goals as goal

pub returns : goal.returns
returns c = fair_drivers_end
