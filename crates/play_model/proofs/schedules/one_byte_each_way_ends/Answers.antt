use Rattle.play_model.proofs.Ends.{one_each_ends}
use Rattle.play_model.proofs.schedules.one_byte_each_way_ends.Goals as goal

pub returns : goal.returns
returns c = one_each_ends
