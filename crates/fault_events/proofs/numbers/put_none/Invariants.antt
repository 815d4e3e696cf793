use Rattle.std.proofs.Common.{◌≡◌, ◌++◌, replicate, None}
use Rattle.fault_events.proofs.numbers.put_none.Given as goal

abbrev pub invariant-loop : goal.invariant-loop
invariant-loop l = l.list.items ≡ l.fn.list.items ++ replicate l.counter None
