use Rattle.worked_examples.proofs.SingleCompute.{edgerows}
use Rattle.worked_examples.proofs.plays.edges_compute.Goals as goal

pub returns : goal.returns
returns c = edgerows
