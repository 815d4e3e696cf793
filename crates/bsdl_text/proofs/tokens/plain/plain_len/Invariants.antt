use Rattle.std.proofs.Common.{◌≡◌, ◌+◌, ◌-◌, ◌≤◌, length, drop, get_or}
use Rattle.bsdl_text.specs.Plain.{plain_len}
use Rattle.bsdl_text.proofs.tokens.plain.plain_len.Given as goal

-- each byte before the present one is plain
abbrev pub invariant-loop-at : goal.invariant-loop-at
invariant-loop-at l = record {
  behind : 1 ≤ l.at;
  within : l.at ≤ length l.text;
  passed : plain_len l.ending 32 l.text ≡ l.at + plain_len l.ending (get_or l.text (l.at - 1) 0) (drop l.at l.text);
}

abbrev pub decreases-loop-at : goal.decreases-loop-at
decreases-loop-at l = length l.text - l.at
