use Rattle.play_model.proofs.LegalSamples.{needed}
use Rattle.play_model.proofs.legal.the_premises_are_needed.Goals as goal

pub returns : goal.returns
returns c = needed
