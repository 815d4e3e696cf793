use Rattle.std.proofs.Common.{suc, ◌+◌, min, sym, ◌∙◌, arith}
use Rattle.std.proofs.lemmas.List.{at_drop_all}
use Rattle.jt_limits.specs.Limits.{limits}
use Rattle.bsdl_entity.specs.PortsView.{ports}
use Rattle.bsdl_rules.proofs.WidthLaws.{group_counted, is_counted, total}
use Rattle.bsdl_rules.proofs.limits.bit_count.Goals as goal

pub loop-group-preserved : goal.loop-group-preserved
loop-group-preserved c = record {
  counted = group_counted c.args.groups.now c.loop-group.group-index c.group-item.result c.loop-group.count c.with_group-count.result c.loop-group-test.true c.group-item.is c.with_group-count.ensures ∙ c.loop-group.invariant.counted;
  small = omega (arith, c.with_group-count.ensures);
}

pub returns : goal.returns
returns c =
    is_counted c.loop-group.count (total (ports c.args.groups.now)) c.loop-group.invariant.small
    (sym (at_drop_all (λ gs. min (c.loop-group.count + total (ports gs)) (suc limits.port_bits)) c.args.groups.now c.loop-group.group-index c.loop-group-test.false) ∙ c.loop-group.invariant.counted)
