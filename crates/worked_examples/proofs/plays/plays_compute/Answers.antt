use Rattle.worked_examples.proofs.PlaysCompute.{playrows}
use Rattle.worked_examples.proofs.plays.plays_compute.Goals as goal

pub returns : goal.returns
returns c = playrows
