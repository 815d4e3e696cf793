use Rattle.std.proofs.Common.{◌≡◌, drop, map}
use Rattle.fault_events.specs.Nets.{ending_by_nets, seen}
use Rattle.fault_events.proofs.nets.net_ending.Given as goal

abbrev pub invariant-loop-capture : goal.invariant-loop-capture
invariant-loop-capture l =
    ending_by_nets l.way l.pulls l.first l.second (map seen l.captures)
    ≡ ending_by_nets l.way l.pulls l.first l.second (map seen (drop l.capture-index l.captures))
