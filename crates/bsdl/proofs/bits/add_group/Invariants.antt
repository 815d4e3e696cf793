use Rattle.std.proofs.Common.{◌≡◌, ◌++◌, List, drop}
use Rattle.bsdl_entity.specs.Ports.{Port}
use Rattle.bsdl_entity.specs.PortsView.{group}
use Rattle.bsdl_entity.proofs.PortsNamed.{ports_named}
use Rattle.bsdl.specs.Bits.{firsts}
use Rattle.bsdl.proofs.bits.add_group.Given as goal

abbrev pub invariant-loop-name : goal.invariant-loop-name
invariant-loop-name l =
    (more : List Port)
    → l.all.bits.items ++ firsts l.all.next (ports_named l.group.mode l.group.range (drop l._name-index l.group.names.items) ++ more)
    ≡ l.initial.all.bits.items ++ firsts l.initial.all.next (group l.group ++ more)
