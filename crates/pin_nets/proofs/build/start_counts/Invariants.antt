use Rattle.std.proofs.Common.{◌≡◌, [], ◌∷◌, map, take}
use Rattle.pin_nets.specs.Levels.{four, counts_of, pull_drive}
use Rattle.pin_nets.proofs.build.start_counts.Given as goal

abbrev pub invariant-loop-net : goal.invariant-loop-net
invariant-loop-net l = l.counts.items ≡ map (λ x. four (counts_of (pull_drive x.pull ∷ []))) (take l.net-index l.nets)
