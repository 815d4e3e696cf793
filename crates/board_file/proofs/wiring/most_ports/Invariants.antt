use Rattle.std.proofs.Common.{◌≡◌, drop, max}
use Rattle.board_file.specs.Ports.{most_ports}
use Rattle.board_file.proofs.wiring.most_ports.Given as goal

-- the most so far, with what is left, is the most of all
abbrev pub invariant-loop-device : goal.invariant-loop-device
invariant-loop-device l = max l.most (most_ports (drop l.device-index l.devices)) ≡ most_ports l.devices
