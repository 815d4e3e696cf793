use Rattle.board_model.proofs.Staying.{bits_stay}
use Rattle.board_model.proofs.laws.the_bits_in_force_stay.Goals as goal

pub returns : goal.returns
returns c = bits_stay
