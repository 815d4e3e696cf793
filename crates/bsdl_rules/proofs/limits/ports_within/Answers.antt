use Rattle.std.proofs.Common.{◌∙◌}
use Rattle.bsdl_entity.specs.PortsView.{ports}
use Rattle.bsdl_rules.proofs.WidthLaws.{ports_by}
use Rattle.bsdl_rules.proofs.limits.ports_within.Goals as goal

pub returns : goal.returns
returns c = c.few_bits.ensures ∙ ports_by (ports c.args.groups.now)
