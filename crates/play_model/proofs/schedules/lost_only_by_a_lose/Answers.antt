use Rattle.play_model.proofs.Losses.{lost_by_a_lose}
use Rattle.play_model.proofs.schedules.lost_only_by_a_lose.Goals as goal

pub returns : goal.returns
returns c = lost_by_a_lose
