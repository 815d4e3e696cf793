use Rattle.std.proofs.Common.{sym, ap, ◌∙◌}
use Rattle.std.specs.Ordering.{is_eq}
use Rattle.name_keys.specs.OrderLaws.{key_order_ties}
use Rattle.name_keys.proofs.owned.OwnedNameKeyPartialEq.eq.Goals as goal

pub returns : goal.returns
returns c = c.is_eq.ensures ∙ ap is_eq c.cmp.ensures ∙ sym (key_order_ties c.args.self.now c.args.other.now)
