use Rattle.std.proofs.Common.{◌≡◌, ◌^◌, ◌<◌, false}
use Rattle.svf_lex.specs.Left.{left}
use Rattle.svf_words.specs.Numbers.{len_value}
use Rattle.refusal_places.specs.TokenFaults.{bytes_in, digits_ahead, first_with, next_word}
use Rattle.refusal_places.proofs.token_faults.first_with.Given as goal

abbrev pub invariant-loop-token : goal.invariant-loop-token
invariant-loop-token l = record {
  can : (goal.iterator-loop-token).can_next l.rest;
  finite : (goal.iterator-loop-token).is_finite l.rest;
  same : first_with l.number l.command l.length l.is_inside (left l.rest)
      ≡ first_with l.number l.command (len_value (next_word (left l.words))) false (left l.words);
  ahead : l.ahead ≡ digits_ahead (left l.rest);
  few : bytes_in (left l.rest) < 2 ^ 64;
}
