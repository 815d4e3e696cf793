use Rattle.std.proofs.Common.{◌≡◌, drop, map}
use Rattle.fault_events.specs.Nets.{seen}
use Rattle.fault_serving.specs.Firsts.{lists_firsts}
use Rattle.fault_serving.proofs.listing.lists_firsts.Given as goal

abbrev pub invariant-loop-capture : goal.invariant-loop-capture
invariant-loop-capture l =
    lists_firsts l.bits l.way l.pulls l.first l.second (map seen l.captures)
    ≡ lists_firsts l.bits l.way l.pulls l.first l.second (map seen (drop l.capture-index l.captures))
