use Rattle.board_model.proofs.InOrder.{rising_targets}
use Rattle.board_model.proofs.laws.rising_targets_are_in_order.Goals as goal

pub returns : goal.returns
returns c = rising_targets
