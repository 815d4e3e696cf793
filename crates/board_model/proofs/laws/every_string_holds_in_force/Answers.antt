use Rattle.board_model.proofs.Following.{every_string_holds}
use Rattle.board_model.proofs.laws.every_string_holds_in_force.Goals as goal

pub returns : goal.returns
returns c = every_string_holds
