use Rattle.std.proofs.Common.{◌≡◌, ◌++◌, drop}
use Rattle.std.specs.List.{flat_map}
use Rattle.bsdl_entity.specs.PortsView as view
use Rattle.bsdl_description.specs.View.{taps}
use Rattle.bsdl.specs.Boundary.{port_bits}
use Rattle.bsdl.proofs.ports.ports_of.Given as goal

abbrev pub invariant-loop-group : goal.invariant-loop-group
invariant-loop-group l = l.ports ++ flat_map (port_bits (taps l.taps)) (view.ports (drop l.group-index l.groups)) ≡ flat_map (port_bits (taps l.taps)) (view.ports l.groups)
