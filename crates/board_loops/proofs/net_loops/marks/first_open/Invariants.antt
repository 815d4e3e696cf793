use Rattle.std.proofs.Common.{◌≡◌, ◌<◌, ℕ, false, get_or}
use Rattle.board_loops.specs.Marks.{is_open}
use Rattle.board_loops.specs.declared.net_loops.Dependency.{Dependency}
use Rattle.board_loops.proofs.net_loops.marks.first_open.Given as goal

abbrev pub invariant-loop-string : goal.invariant-loop-string
invariant-loop-string l = (k : ℕ) → k < l.string-index → (d : Dependency) → is_open l.marks (get_or l.strings k d) ≡ false
