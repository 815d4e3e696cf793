use Rattle.board_model.proofs.InOrder.{rising_strings}
use Rattle.board_model.proofs.laws.rising_strings_are_in_order.Goals as goal

pub returns : goal.returns
returns c = rising_strings
