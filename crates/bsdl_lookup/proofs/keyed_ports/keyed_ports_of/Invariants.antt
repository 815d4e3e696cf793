use Rattle.std.proofs.Common.{◌≡◌, ℕ, List, drop, map, option_map}
use Rattle.std.specs.Option.{option_or}
use Rattle.bsdl_entity.specs.PortsView.{ports, range}
use Rattle.bsdl_lookup.specs.NamedPorts.{find_port}
use Rattle.bsdl_lookup.specs.Keyed.{port_keyed}
use Rattle.bsdl_lookup.proofs.keyed_ports.keyed_ports_of.Given as goal

abbrev pub invariant-loop-place : goal.invariant-loop-place
invariant-loop-place l = record {
  ranges : map (option_map range) l.keyed.ranges.items ≡ map (λ g. option_map range g.range) l.groups;
  kept : (q : List ℕ) → option_or (port_keyed l.keyed q) (find_port l.keyed.next (ports (drop l.place l.groups)) q) ≡ find_port 0 (ports l.groups) q;
}
