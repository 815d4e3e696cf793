use Rattle.std.proofs.Common.{◌≡◌, ◌+◌, ℕ, List, drop}
use Rattle.std.specs.Option.{option_or}
use Rattle.bsdl_entity.specs.PortsView.{group}
use Rattle.bsdl_entity.proofs.PortsNamed.{ports_named}
use Rattle.bsdl_lookup.specs.NamedPorts.{find_port}
use Rattle.bsdl_lookup.specs.Keyed.{port_keyed}
use Rattle.bsdl_lookup.proofs.keyed_ports.add_group.Given as goal

abbrev pub invariant-loop-name : goal.invariant-loop-name
invariant-loop-name l = record {
  ranges : l.keyed.ranges ≡ l.initial.keyed.ranges;
  counted : l.keyed.next ≡ l.initial.keyed.next + l.name-index;
  kept :
      (q : List ℕ)
      → option_or (port_keyed l.keyed q) (find_port l.keyed.next (ports_named l.group.mode l.group.range (drop l.name-index l.group.names.items)) q) ≡ option_or (port_keyed l.initial.keyed q) (find_port l.initial.keyed.next (group l.group) q);
}
