use Rattle.play_model.proofs.Programs.{program_means}
use Rattle.play_model.proofs.legal.every_legal_program_plays_as_it_means.Goals as goal

pub returns : goal.returns
returns c = program_means
