use Rattle.play_pipes.proofs.Inside.{lost_by}
use Rattle.play_pipes.proofs.laws.only_a_lose_loses.Goals as goal

pub returns : goal.returns
returns c = lost_by
