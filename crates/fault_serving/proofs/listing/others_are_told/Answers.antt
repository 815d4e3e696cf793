use Rattle.fault_serving.proofs.Firsts.{others_are_told}
use Rattle.fault_serving.proofs.listing.others_are_told.Goals as goal

pub returns : goal.returns
returns c = others_are_told
