use Rattle.std.proofs.Common.{◌≡◌, [], map, take}
use Rattle.pin_nets.specs.Levels.{pull_drive, reads, shown}
use Rattle.pin_nets.proofs.build.start_seen.Given as goal

abbrev pub invariant-loop-net : goal.invariant-loop-net
invariant-loop-net l = l.seen.items ≡ map (λ x. reads (shown x.rule (pull_drive x.pull) [])) (take l.net-index l.nets)
