use Rattle.std.proofs.Common.{map, take}
use Rattle.bsdl_values.specs.InstructionView.{access_row}
use Rattle.bsdl_opcodes.specs.Users.{users_of}
use Rattle.bsdl_opcodes.specs.UserView.{Lists}
use Rattle.bsdl_opcodes.proofs.users.users_of.Given as goal

abbrev pub invariant-loop-row : goal.invariant-loop-row
invariant-loop-row l = Lists l.users (users_of (map access_row (take l.row-index l.rows)))
