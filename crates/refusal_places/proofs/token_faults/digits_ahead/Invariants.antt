use Rattle.std.proofs.Common.{◌≡◌, ◌+◌}
use Rattle.svf_lex.specs.Left.{left}
use Rattle.refusal_places.specs.TokenFaults.{digits_ahead}
use Rattle.refusal_places.proofs.token_faults.digits_ahead.Given as goal

abbrev pub invariant-loop-token : goal.invariant-loop-token
invariant-loop-token l = record {
  can : (goal.iterator-loop-token).can_next l.rest;
  finite : (goal.iterator-loop-token).is_finite l.rest;
  sum : l.digits + digits_ahead (left l.rest) ≡ digits_ahead (left l.words);
}
