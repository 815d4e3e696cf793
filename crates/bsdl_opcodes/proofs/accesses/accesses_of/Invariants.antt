use Rattle.std.proofs.Common.{◌≡◌, ◌++◌, ℕ, List, map, drop}
use Rattle.std.specs.List.{flat_map}
use Rattle.bsdl_values.specs.InstructionView.{access_row}
use Rattle.bsdl_opcodes.specs.UserView.{Lists}
use Rattle.bsdl_opcodes.specs.Accesses.{accesses_of_row}
use Rattle.bsdl_opcodes.proofs.accesses.accesses_of.Given as goal

abbrev pub invariant-loop-row : goal.invariant-loop-row
invariant-loop-row l =
    (us : List (List ℕ × ℕ)) → Lists l.users us → l.accesses.items ++ flat_map (accesses_of_row us) (map access_row (drop l.row-index l.rows)) ≡ flat_map (accesses_of_row us) (map access_row l.rows)
