use Rattle.board_model.proofs.BoardLaws.{opening_rests}
use Rattle.board_model.proofs.laws.the_opening_rests_every_board.Goals as goal

pub returns : goal.returns
returns c = opening_rests
