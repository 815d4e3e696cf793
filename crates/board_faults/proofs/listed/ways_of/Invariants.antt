use Rattle.std.proofs.Common.{◌≡◌, take}
use Rattle.std.specs.Prelude.{flat_map}
use Rattle.board_faults.specs.Faults.{ways}
use Rattle.board_faults.proofs.listed.ways_of.Given as goal

-- those of the faults so far
abbrev pub invariant-loop-fault : goal.invariant-loop-fault
invariant-loop-fault l = l.all.items ≡ flat_map ways (take l.fault-index l.faults)
