use Rattle.board_model.proofs.Following.{no_circle}
use Rattle.board_model.proofs.laws.no_circle_is_no_loop_of_strings.Goals as goal

pub returns : goal.returns
returns c = no_circle
