use Rattle.play_model.proofs.PlayLaws.{empty_rests}
use Rattle.play_model.proofs.laws.the_empty_program_rests_every_board.Goals as goal

pub returns : goal.returns
returns c = empty_rests
