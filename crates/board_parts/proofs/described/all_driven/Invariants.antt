use Rattle.std.proofs.Common.{◌≡◌, ◌++◌, drop}
use Rattle.board_parts.proofs.described.all_driven.Given as goal

-- the descriptions so far, with those to come, are all
abbrev pub invariant-loop-device : goal.invariant-loop-device
invariant-loop-device l = l.all.items ++ drop l.device-index l.described ≡ l.described
