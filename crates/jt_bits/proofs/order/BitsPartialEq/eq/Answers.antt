use Rattle.std.proofs.Common.{sym, ap, ◌∙◌}
use Rattle.std.specs.Ordering.{is_eq}
use Rattle.jt_bits.specs.OrderLaws.{bits_order_ties}
use Rattle.jt_bits.proofs.order.BitsPartialEq.eq.Goals as goal

pub returns : goal.returns
returns c = c.is_eq.ensures ∙ ap is_eq c.cmp.ensures ∙ sym (bits_order_ties c.args.self.now c.args.other.now)
