use Rattle.std.proofs.Common.{◌≡◌, ◌++◌, drop}
use Rattle.board_model.specs.Chain.{members}
use Rattle.fault_events.specs.Drives.{modes}
use Rattle.fault_events.proofs.drives.put_modes.Given as goal

abbrev pub invariant-loop-device : goal.invariant-loop-device
invariant-loop-device l =
    l.list.items ++ modes (members (drop l.device l.chain.chips)) ≡ l.fn.list.items ++ modes (members l.chain.chips)
