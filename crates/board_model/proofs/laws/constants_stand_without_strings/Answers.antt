use Rattle.board_model.proofs.Following.{constants_in_force}
use Rattle.board_model.proofs.laws.constants_stand_without_strings.Goals as goal

pub returns : goal.returns
returns c = constants_in_force
