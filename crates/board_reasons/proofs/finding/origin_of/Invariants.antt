use Rattle.std.proofs.Common.{◌≡◌, drop}
use Rattle.board_model.specs.Chain.{members}
use Rattle.board_reasons.specs.Origins.{origin, origin_from}
use Rattle.board_reasons.proofs.finding.origin_of.Given as goal

-- what is left stands among the devices that are left
abbrev pub invariant-loop-device : goal.invariant-loop-device
invariant-loop-device l =
    origin_from l.column l.device (drop l.device (members l.chain.chips)) l.rest ≡ origin l.column (members l.chain.chips) l.k
