use Rattle.std.proofs.Common.{◌≡◌, ◌++◌, drop}
use Rattle.std.specs.List.{flat_map}
use Rattle.bsdl_entity.specs.PortsView.{group}
use Rattle.bsdl_description.specs.View.{taps}
use Rattle.bsdl_entity.proofs.PortsNamed.{ports_named}
use Rattle.bsdl.specs.Boundary.{port_bits}
use Rattle.bsdl.proofs.ports.with_group.Given as goal

abbrev pub invariant-loop-name : goal.invariant-loop-name
invariant-loop-name l =
    l.ports ++ flat_map (port_bits (taps l.taps)) (ports_named l.group.mode l.group.range (drop l.name-index l.group.names.items)) ≡ l.initial.ports ++ flat_map (port_bits (taps l.taps)) (group l.group)
