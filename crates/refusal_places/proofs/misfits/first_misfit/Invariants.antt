use Rattle.std.proofs.Common.{◌≡◌}
use Rattle.svf_lex.specs.Left.{left}
use Rattle.refusal_places.specs.Misfits.{misfit}
use Rattle.refusal_places.proofs.misfits.first_misfit.Given as goal

abbrev pub invariant-loop-token : goal.invariant-loop-token
invariant-loop-token l = record {
  can : (goal.iterator-loop-token).can_next l.rest;
  finite : (goal.iterator-loop-token).is_finite l.rest;
  same : misfit l.here (left l.rest) ≡ misfit l.fn.awaited (left l.words);
}
