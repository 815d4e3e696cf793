use Rattle.board_model.proofs.Following.{lowering_strings}
use Rattle.board_model.proofs.laws.lowering_strings_are_on_no_circle.Goals as goal

pub returns : goal.returns
returns c = lowering_strings
