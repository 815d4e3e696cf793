use Rattle.play_pipes.proofs.Ends.{ends}
use Rattle.play_pipes.proofs.laws.what_is_joined_ends_as_the_full_play.Goals as goal

pub returns : goal.returns
returns c = ends
