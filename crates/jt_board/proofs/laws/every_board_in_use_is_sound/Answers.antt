use Rattle.jt_board.proofs.InUse.{every_board}
use Rattle.jt_board.proofs.laws.every_board_in_use_is_sound.Goals as goal

pub returns : goal.returns
returns c = every_board
