use Rattle.std.proofs.Common.{◌≡◌, ◌+◌, ◌++◌, ◌≤◌, map, take}
use Rattle.bitbang_protocol.specs.Protocol.{answer}
use Rattle.jt_board.specs.Words.{word_bits}
use Rattle.play_links.specs.Shifts.{picked}
use Rattle.play_links.proofs.shifting.put_answers.Given as goal

abbrev pub invariant-loop-k : goal.invariant-loop-k
invariant-loop-k l = record {
  few : l.at ≤ l.count + l.k;
  taken : take l.at l.answers ≡ take l.count l.initial.answers ++ map answer (picked (word_bits l.run.reads l.k) (word_bits l.out l.k));
}
