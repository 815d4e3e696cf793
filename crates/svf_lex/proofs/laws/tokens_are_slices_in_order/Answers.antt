use Rattle.svf_lex.proofs.Order.{slices_in_order, items_are_few}
use Rattle.svf_lex.proofs.laws.tokens_are_slices_in_order.Goals as goal

pub returns : goal.returns
returns c = record { in_order = slices_in_order; few = items_are_few }
