use Rattle.std.proofs.Common.{◌≡◌, ◌≢◌, ◌<◌, ℕ, take}
use Rattle.board_description.specs.Blocks.{pattern_at}
use Rattle.board_description.proofs.blocks.put_pattern.Given as goal

abbrev pub invariant-loop-i : goal.invariant-loop-i
invariant-loop-i l =
    (pattern_at (take l.i l.columns) l.k ≡ take l.i l.pattern)
    × ((j : ℕ) → j < 64 → j ≢ l.k → pattern_at l.columns j ≡ pattern_at l.initial.columns j)
