use Rattle.std.proofs.Common.{◌≡◌, ◌++◌, map, drop}
use Rattle.std.specs.Prelude.{None}
use Rattle.bsdl_entity.specs.PortsView.{ports}
use Rattle.bsdl_rules.specs.Twice.{outside}
use Rattle.bsdl_rules.specs.NamingView.{named}
use Rattle.bsdl_rules.proofs.again.port_names.Given as goal

abbrev pub invariant-loop-group : goal.invariant-loop-group
invariant-loop-group l = map (named None) l.names.items ++ map (λ p. outside p.name) (ports (drop l.group-index l.groups)) ≡ map (λ p. outside p.name) (ports l.groups)
