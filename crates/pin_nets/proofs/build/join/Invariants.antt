use Rattle.std.proofs.Common.{take}
use Rattle.pin_nets.specs.Places.{EntersPins}
use Rattle.pin_nets.proofs.build.join.Given as goal

abbrev pub invariant-loop-pin : goal.invariant-loop-pin
invariant-loop-pin l = EntersPins l.initial.net_of l.net_of l.net (take l.pin-index l.pins)
