use Rattle.fault_serving.proofs.Firsts.{firsts_are_failures}
use Rattle.fault_serving.proofs.listing.firsts_are_failures.Goals as goal

pub returns : goal.returns
returns c = firsts_are_failures
