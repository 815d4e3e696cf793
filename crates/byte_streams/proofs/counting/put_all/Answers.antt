-- What all the calls do, from what the last of them did.
use Rattle.std.proofs.Common.{true, false, arith}
use Rattle.std.proofs.lemmas.Grind.{common_steps}
use Rattle.byte_streams.specs.Writes.{none_left, call_lost}
use Rattle.byte_streams.proofs.Fronts.{AppendsUpTo-more, PutsAll-more}
use Rattle.byte_streams.proofs.counting.put_all.Goals as goal

pub loop-rest-preserved : goal.loop-rest-preserved
loop-rest-preserved g c = record {
  none_lost = grind (arith, common_steps);
  at_end = grind (arith, common_steps);
  sent = AppendsUpTo-more c.in-Ok.n c.loop-rest.invariant.sent c.in-Ok.ensures.bytes;
  calls = λ whole u others. c.loop-rest.invariant.calls whole u (PutsAll-more c.in-Ok.n (grind (arith, common_steps)) c.in-Ok.ensures.puts.0 others);
}

pub returns-in-Ok-eq0-clause-calls : goal.returns-in-Ok-eq0-clause-calls
returns-in-Ok-eq0-clause-calls g c = c.loop-rest.invariant.calls false _ (call_lost _ _ c.put.result _ c.put.ensures.puts.0 (grind (arith, common_steps)))

pub returns-in-Ok-eq0-2-clause-calls : goal.returns-in-Ok-eq0-2-clause-calls
returns-in-Ok-eq0-2-clause-calls g c = c.loop-rest.invariant.calls false _ (call_lost _ _ c.put.result _ c.put.ensures.puts.0 (grind (arith, common_steps)))

pub returns-clause-calls : goal.returns-clause-calls
returns-clause-calls g c = c.loop-rest.invariant.calls true _ (grind (arith, common_steps, none_left))
