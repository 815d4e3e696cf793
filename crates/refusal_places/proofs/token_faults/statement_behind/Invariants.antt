use Rattle.std.proofs.Common.{◌≡◌, ◌≤◌, false, length}
use Rattle.svf_lex.specs.Cutting.{items_of}
use Rattle.svf_lex.specs.Left.{left}
use Rattle.refusal_places.specs.TokenFaults.{bytes_in, statement_behind}
use Rattle.refusal_places.proofs.token_faults.statement_behind.Given as goal

abbrev pub invariant-loop-token : goal.invariant-loop-token
invariant-loop-token l = record {
  can : (goal.iterator-loop-token).can_next l.rest;
  finite : (goal.iterator-loop-token).is_finite l.rest;
  same : statement_behind l.is_open l.before (left l.rest) ≡ statement_behind false l.others (items_of l.text);
  few : bytes_in (left l.rest) ≤ length l.text;
}
