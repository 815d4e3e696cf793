use Rattle.std.proofs.Common.{◌≡◌, drop}
use Rattle.jt_limits.specs.Limits.{limits}
use Rattle.bsdl_entity.specs.PortsView.{ports}
use Rattle.bsdl_sizes.specs.Counting.{left_behind}
use Rattle.bsdl_sizes.proofs.limits.port_beyond.Given as goal

abbrev pub invariant-loop-group : goal.invariant-loop-group
invariant-loop-group l = left_behind l.left (ports (drop l.group-index l.groups)) ≡ left_behind limits.port_bits (ports l.groups)
