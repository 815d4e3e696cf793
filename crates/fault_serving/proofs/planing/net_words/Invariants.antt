use Rattle.std.proofs.Common.{◌≡◌, length, map}
use Rattle.fault_events.specs.Nets.{seen}
use Rattle.fault_serving.specs.Planes.{AreNetWords}
use Rattle.fault_serving.proofs.planing.net_words.Given as goal

-- those of the nets so far
abbrev pub invariant-loop-net : goal.invariant-loop-net
invariant-loop-net l = record {
  count : length l.all.items ≡ l.net;
  words : AreNetWords (map seen l.captures) l.all.items;
}
