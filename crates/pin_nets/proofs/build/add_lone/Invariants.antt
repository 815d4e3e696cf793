use Rattle.pin_nets.proofs.Building.{LoneUntil}
use Rattle.pin_nets.proofs.build.add_lone.Given as goal

abbrev pub invariant-loop-pin : goal.invariant-loop-pin
invariant-loop-pin l = LoneUntil l.initial.nets.items l.pin l.initial.net_of l.net_of l.nets.items
