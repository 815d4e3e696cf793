use Rattle.play_pipes.proofs.Ends.{means}
use Rattle.play_pipes.proofs.laws.what_is_joined_means_the_program.Goals as goal

pub returns : goal.returns
returns c = means
