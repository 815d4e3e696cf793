use Rattle.std.proofs.Common.{All}
use Rattle.board_loops.specs.Loops.{IsWithin}
use Rattle.board_loops.proofs.net_loops.tests.strings_of.Given as goal

abbrev pub invariant-loop-pair : goal.invariant-loop-pair
invariant-loop-pair l = All (IsWithin l.nets) l.strings.items
