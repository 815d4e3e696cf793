use Rattle.std.proofs.Common.{sym}
use Rattle.bsdl_entity.specs.PortsView.{range}
use Rattle.bsdl_sizes.proofs.PortLaws.{width_by}
use Rattle.bsdl_sizes.proofs.limits.bits_of_range.Goals as goal

pub returns : goal.returns
returns c =
    width_by (range c.args.range) c.up_to-high.result c.up_to-low.result c.saturating_sub.result (sym c.if-not-is_at_most.ensures) c.up_to-high.ensures c.up_to-low.ensures c.saturating_sub.ensures
