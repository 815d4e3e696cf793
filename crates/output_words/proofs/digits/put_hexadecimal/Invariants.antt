use Rattle.std.proofs.Common.{◌≡◌, ◌++◌}
use Rattle.output_words.specs.Digits.{hexadecimal}
use Rattle.output_words.proofs.digits.put_hexadecimal.Given as goal

-- the digits so far, with those to come, are all
abbrev pub invariant-loop-k : goal.invariant-loop-k
invariant-loop-k l = l.text.items ++ hexadecimal l.k l.bits ≡ l.initial.text.items ++ hexadecimal l.count l.bits

abbrev pub decreases-loop-k : goal.decreases-loop-k
decreases-loop-k l = l.k
