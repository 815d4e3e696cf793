use Rattle.std.proofs.Common.{◌≡◌, take, length}
use Rattle.board_plan.proofs.BitLaws.{written}
use Rattle.board_plan.proofs.words.written_bits.Given as goal

abbrev pub invariant-loop-i : goal.invariant-loop-i
invariant-loop-i l = record { len : length l.bits ≡ l.len; front : take l.i l.bits ≡ take l.i (written l.text) }
