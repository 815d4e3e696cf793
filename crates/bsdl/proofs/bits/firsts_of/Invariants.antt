use Rattle.std.proofs.Common.{◌≡◌, ◌++◌, drop}
use Rattle.bsdl_entity.specs.PortsView.{ports}
use Rattle.bsdl.specs.Bits.{firsts}
use Rattle.bsdl.proofs.bits.firsts_of.Given as goal

abbrev pub invariant-loop-group : goal.invariant-loop-group
invariant-loop-group l = l.all.bits.items ++ firsts l.all.next (ports (drop l.group-index l.groups)) ≡ firsts 0 (ports l.groups)
