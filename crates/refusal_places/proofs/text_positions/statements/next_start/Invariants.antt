use Rattle.std.proofs.Common.{◌≡◌}
use Rattle.svf_lex.specs.Left.{left}
use Rattle.refusal_places.specs.Starts.{starts}
use Rattle.refusal_places.proofs.text_positions.statements.next_start.Given as goal

abbrev pub invariant-loop-token : goal.invariant-loop-token
invariant-loop-token l = record {
  can : (goal.iterator-loop-token).can_next l.rest;
  finite : (goal.iterator-loop-token).is_finite l.rest;
  same : starts l.open (left l.rest) ≡ starts l.is_open (left l.lexer);
}
