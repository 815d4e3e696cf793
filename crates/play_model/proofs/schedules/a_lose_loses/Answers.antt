use Rattle.play_model.proofs.Losses.{a_lose_loses}
use Rattle.play_model.proofs.schedules.a_lose_loses.Goals as goal

pub returns : goal.returns
returns c = a_lose_loses
