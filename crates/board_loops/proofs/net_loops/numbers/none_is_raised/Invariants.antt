use Rattle.std.proofs.Common.{◌<◌, ℕ, get_or}
use Rattle.board_loops.specs.Numbers.{IsUnraised}
use Rattle.board_loops.specs.declared.net_loops.Dependency.{Dependency}
use Rattle.board_loops.proofs.net_loops.numbers.none_is_raised.Given as goal

abbrev pub invariant-loop-string : goal.invariant-loop-string
invariant-loop-string l = (k : ℕ) → k < l.string-index → (d : Dependency) → IsUnraised l.numbers (get_or l.strings k d)
