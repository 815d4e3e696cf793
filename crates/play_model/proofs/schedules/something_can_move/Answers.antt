use Rattle.play_model.proofs.Ends.{something_can_move}
use Rattle.play_model.proofs.schedules.something_can_move.Goals as goal

pub returns : goal.returns
returns c = something_can_move
