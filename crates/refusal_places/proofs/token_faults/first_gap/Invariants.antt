use Rattle.std.proofs.Common.{◌≡◌, None}
use Rattle.svf_lex.specs.Left.{left}
use Rattle.refusal_places.specs.TokenFaults.{gap_behind}
use Rattle.refusal_places.proofs.token_faults.first_gap.Given as goal

abbrev pub invariant-loop-token : goal.invariant-loop-token
invariant-loop-token l = record {
  can : (goal.iterator-loop-token).can_next l.rest;
  finite : (goal.iterator-loop-token).is_finite l.rest;
  same : gap_behind l.before (left l.rest) ≡ gap_behind None (left l.words);
}
