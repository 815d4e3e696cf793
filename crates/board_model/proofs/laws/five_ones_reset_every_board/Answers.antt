use Rattle.board_model.proofs.BoardLaws.{five_ones_rest}
use Rattle.board_model.proofs.laws.five_ones_reset_every_board.Goals as goal

pub returns : goal.returns
returns c = five_ones_rest
