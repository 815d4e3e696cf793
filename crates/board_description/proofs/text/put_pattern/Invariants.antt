use Rattle.std.proofs.Common.{◌≡◌, ◌≤◌, ◌++◌, length}
use Rattle.board_description.specs.Described.{pattern_digits, pattern_from}
use Rattle.board_description.proofs.text.put_pattern.Given as goal

-- the digits so far, with those to come, are all
abbrev pub invariant-loop-i : goal.invariant-loop-i
invariant-loop-i l = record {
  within : l.i ≤ length l.digits;
  all : l.text.items ++ pattern_from l.i l.digits ≡ l.initial.text.items ++ pattern_digits l.digits;
}

abbrev pub decreases-loop-i : goal.decreases-loop-i
decreases-loop-i l = l.i
