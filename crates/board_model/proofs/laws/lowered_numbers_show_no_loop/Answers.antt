use Rattle.board_model.proofs.Following.{lowered_numbers}
use Rattle.board_model.proofs.laws.lowered_numbers_show_no_loop.Goals as goal

pub returns : goal.returns
returns c = lowered_numbers
