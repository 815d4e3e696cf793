use Rattle.play_pipes.proofs.Holding.{holds}
use Rattle.play_pipes.proofs.laws.what_is_joined_holds_what_is_owed.Goals as goal

pub returns : goal.returns
returns c = holds
