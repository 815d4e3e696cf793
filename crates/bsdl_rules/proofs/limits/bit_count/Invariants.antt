use Rattle.std.proofs.Common.{suc, ◌≡◌, ◌≤◌, ◌+◌, min, drop}
use Rattle.std.specs.List.{sum_by}
use Rattle.jt_limits.specs.Limits.{limits}
use Rattle.bsdl_entity.specs.PortsView.{ports}
use Rattle.bsdl_rules.specs.Widths.{capped_width}
use Rattle.bsdl_rules.proofs.limits.bit_count.Given as goal

abbrev pub invariant-loop-group : goal.invariant-loop-group
invariant-loop-group l = record {
  counted : min (l.count + sum_by (λ p. capped_width p.range) (ports (drop l.group-index l.groups))) (suc limits.port_bits) ≡ min (sum_by (λ p. capped_width p.range) (ports l.groups)) (suc limits.port_bits);
  small : l.count ≤ (suc limits.port_bits);
}
