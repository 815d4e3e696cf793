use Rattle.board_model.proofs.Following.{only_in_force}
use Rattle.board_model.proofs.laws.only_the_bits_in_force_hold.Goals as goal

pub returns : goal.returns
returns c = only_in_force
