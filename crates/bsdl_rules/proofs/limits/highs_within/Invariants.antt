use Rattle.std.proofs.Common.{◌≡◌, drop}
use Rattle.std.specs.Prelude.{nat_le}
use Rattle.std.specs.List.{list_all}
use Rattle.bsdl_entity.specs.PortsView.{ports}
use Rattle.jt_limits.specs.Limits.{subscript_limit}
use Rattle.bsdl_entity.specs.PortBits.{highest}
use Rattle.bsdl_rules.proofs.limits.highs_within.Given as goal

abbrev pub invariant-loop-group : goal.invariant-loop-group
invariant-loop-group l =
    list_all (λ p. nat_le (highest p.range) subscript_limit) (ports (drop l.group-index l.groups)) ≡ list_all (λ p. nat_le (highest p.range) subscript_limit) (ports l.groups)
