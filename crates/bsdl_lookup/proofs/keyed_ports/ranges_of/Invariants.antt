use Rattle.std.proofs.Common.{◌≡◌, ◌++◌, drop, map, option_map}
use Rattle.bsdl_entity.specs.PortsView.{range}
use Rattle.bsdl_lookup.proofs.keyed_ports.ranges_of.Given as goal

-- the ranges so far, with those to come, are all
abbrev pub invariant-loop-group : goal.invariant-loop-group
invariant-loop-group l = map (option_map range) l.ranges.items ++ map (λ g. option_map range g.range) (drop l.group-index l.groups) ≡ map (λ g. option_map range g.range) l.groups
