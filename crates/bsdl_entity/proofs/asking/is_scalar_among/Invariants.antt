use Rattle.std.proofs.Common.{◌≡◌, drop}
use Rattle.bsdl_entity.specs.Scalars.{is_scalar}
use Rattle.bsdl_entity.specs.PortsView as view
use Rattle.bsdl_entity.proofs.asking.is_scalar_among.Given as goal

abbrev pub invariant-loop-group : goal.invariant-loop-group
invariant-loop-group l = is_scalar (view.ports l.groups) l.name ≡ is_scalar (view.ports (drop l.group-index l.groups)) l.name
