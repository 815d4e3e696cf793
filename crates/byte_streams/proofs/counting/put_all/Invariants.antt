use Rattle.std.proofs.Common.{◌≡◌, Bool, length}
use Rattle.byte_streams.specs.Writes.{PutsAll}
use Rattle.byte_streams.proofs.Fronts.{AppendsUpTo}
use Rattle.byte_streams.proofs.counting.put_all.Given as goal

-- No call was lost yet, and what the calls from here on do is what all of them do.
abbrev pub invariant-loop-rest : goal.invariant-loop-rest
invariant-loop-rest g l = record {
  none_lost : l.out.failures ≡ 0;
  at_end : l.out.at_end ≡ l.initial.out.at_end;
  sent : AppendsUpTo (g.W.Write.contents l.initial.out.inner) (g.W.Write.contents l.out.inner) l.bytes l.rest;
  calls : (whole : Bool) (u : _) → PutsAll g.W.Sink.puts l.out.inner l.rest whole u
      → PutsAll g.W.Sink.puts l.initial.out.inner l.bytes whole u;
}

abbrev pub decreases-loop-rest : goal.decreases-loop-rest
decreases-loop-rest g l = length l.rest
