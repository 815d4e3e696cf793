use Rattle.std.proofs.Common.{◌<◌, ℕ}
use Rattle.board_loops.specs.Loops.{IsOnLoop}
use Rattle.board_loops.proofs.net_loops.loops.first_on_loop.Given as goal

abbrev pub invariant-loop-place : goal.invariant-loop-place
invariant-loop-place l = (before : ℕ) → before < l.place → IsOnLoop l.strings before → ⊥
