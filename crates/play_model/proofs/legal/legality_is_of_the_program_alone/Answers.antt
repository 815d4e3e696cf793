use Rattle.play_model.proofs.Legality.{legality}
use Rattle.play_model.proofs.legal.legality_is_of_the_program_alone.Goals as goal

pub returns : goal.returns
returns c = legality
