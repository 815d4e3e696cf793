use Rattle.std.proofs.Common.{◌≡◌, length, map, take}
use Rattle.pin_nets.specs.Building.{net_value}
use Rattle.pin_nets.specs.Places.{HasNetOfEach, AreShort}
use Rattle.pin_nets.proofs.build.named_nets.Given as goal

abbrev pub invariant-loop-spec : goal.invariant-loop-spec
invariant-loop-spec l = record {
  nets : l.nets.items ≡ take l.spec-index (map net_value l.specs);
  long : length l.net_of ≡ length l.initial.net_of;
  marked : HasNetOfEach l.net_of l.nets.items;
  short : AreShort l.nets.items;
}
