use Rattle.std.proofs.Common.{sym, ◌∙◌}
use Rattle.fault_serving.proofs.sifting.Sieve.counted.Goals as goal

pub returns-then-counts : goal.returns-then-counts
returns-then-counts c = record {
  comes = c.in_ok-outcome.ensures;
  may = sym c.counts.ensures ∙ c.if-counts.true;
}
