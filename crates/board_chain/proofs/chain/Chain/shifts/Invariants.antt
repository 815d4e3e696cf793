use Rattle.std.proofs.Common.{◌≡◌, drop}
use Rattle.board_chain.specs.Shifting.{all_shift}
use Rattle.board_chain.proofs.chain.Chain.shifts.Given as goal

-- Those before device i shift.
abbrev pub invariant-loop-i : goal.invariant-loop-i
invariant-loop-i l = all_shift l.column (drop l.i l.self.chips) ≡ all_shift l.column l.self.chips
