use Rattle.std.proofs.Common.{◌≡◌, ◌≤◌, ◌++◌, length, drop}
use Rattle.output_words.specs.Digits.{digits}
use Rattle.output_words.proofs.digits.put_bits.Given as goal

abbrev pub invariant-loop-i : goal.invariant-loop-i
invariant-loop-i l = record {
  within : l.i ≤ length l.bits;
  all : l.text.items ≡ l.initial.text.items ++ digits (drop l.i l.bits);
}

abbrev pub decreases-loop-i : goal.decreases-loop-i
decreases-loop-i l = l.i
