use Rattle.board_model.proofs.InOrder.{strings_in_order}
use Rattle.board_model.proofs.laws.strings_in_order_make_the_bits_in_force.Goals as goal

pub returns : goal.returns
returns c = strings_in_order
