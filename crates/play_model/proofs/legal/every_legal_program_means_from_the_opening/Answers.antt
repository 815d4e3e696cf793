use Rattle.play_model.proofs.DescribedPlays.{means_from_opening}
use Rattle.play_model.proofs.legal.every_legal_program_means_from_the_opening.Goals as goal

pub returns : goal.returns
returns c = means_from_opening
