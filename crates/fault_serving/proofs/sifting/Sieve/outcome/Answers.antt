use Rattle.std.proofs.Common.{sym, subst}
use Rattle.fault_serving.specs.Sifting.{ComesBy}
use Rattle.fault_serving.proofs.SiftingLaws.{bridge_comes}
use Rattle.fault_serving.proofs.sifting.Sieve.outcome.Goals as goal

pub returns : goal.returns
returns c = λ ns is.
    let s = c.args.self.now in
    subst (ComesBy s ns c.outcome_by.result) (sym c.in-Short.is)
    (bridge_comes s ns c.in-Short.first c.in-Short.second c.in_ok-failing.failing c.is_missed-missed.result c.is_any_failing.result c.outcome_by.result
    (c.in_ok-failing.ensures ns is) c.is_missed-missed.ensures c.is_any_failing.ensures c.outcome_by.ensures)
