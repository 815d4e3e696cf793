use Rattle.play_pipes.proofs.Ends.{means_all}
use Rattle.play_pipes.proofs.laws.what_plays_on_means_the_whole_program.Goals as goal

pub returns : goal.returns
returns c = means_all
