use Rattle.play_pipes.proofs.Inside.{can_move}
use Rattle.play_pipes.proofs.laws.something_can_move_until_it_is_over.Goals as goal

pub returns : goal.returns
returns c = can_move
