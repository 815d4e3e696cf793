use Rattle.std.proofs.Common.{◌≡◌, ◌++◌, map, take}
use Rattle.board_model.specs.Chain.{members}
use Rattle.fault_events.specs.Drives.{started}
use Rattle.fault_events.proofs.drives.put_started.Given as goal

abbrev pub invariant-loop-wire : goal.invariant-loop-wire
invariant-loop-wire l = l.list.items ≡ l.fn.list.items ++ map (started (members l.chain.chips)) (take l.wire-index l.wires)
