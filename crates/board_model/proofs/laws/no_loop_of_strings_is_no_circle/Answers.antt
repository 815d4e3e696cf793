use Rattle.board_model.proofs.Following.{no_loop}
use Rattle.board_model.proofs.laws.no_loop_of_strings_is_no_circle.Goals as goal

pub returns : goal.returns
returns c = no_loop
