use Rattle.std.proofs.Common.{◌≡◌, map, take}
use Rattle.chip_registers.specs.Registers.{new_user}
use Rattle.chip_registers.proofs.users.new_users.Given as goal

abbrev pub invariant-loop-n : goal.invariant-loop-n
invariant-loop-n l = l.users.items ≡ map new_user (take l.n-index l.lengths)
