use Rattle.play_pipes.proofs.Inside.{few_move}
use Rattle.play_pipes.proofs.laws.few_events_move_something.Goals as goal

pub returns : goal.returns
returns c = few_move
