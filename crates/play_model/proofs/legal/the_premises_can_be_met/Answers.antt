use Rattle.play_model.proofs.LegalSamples.{met}
use Rattle.play_model.proofs.legal.the_premises_can_be_met.Goals as goal

pub returns : goal.returns
returns c = met
