use Rattle.std.proofs.Common.{List, map, subst}
use Rattle.fault_events.specs.declared.nets.NetCapture.{NetCapture}
use Rattle.fault_events.specs.Nets.{seen}
use Rattle.fault_serving.specs.Planes.{AreNetWords}
use Rattle.fault_serving.proofs.serving.telling_of.Goals as goal

pub returns-clause-telling : goal.returns-clause-telling
returns-clause-telling c = record {
  block = c.in_ok-block.ensures.block;
  words = subst (λ (l : List NetCapture). AreNetWords (map seen l) c.in_ok-words.words.items) c.captures-2.ensures c.in_ok-words.ensures;
}
