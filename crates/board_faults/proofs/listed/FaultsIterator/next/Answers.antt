use Rattle.std.proofs.Common.{length, sym, ap, ◌∙◌, arith}
use Rattle.board_faults.proofs.Left.{step_none, step_some}
use Rattle.board_faults.proofs.listed.FaultsIterator.next.Goals as goal

pub returns-in-Some-clause-steps : goal.returns-in-Some-clause-steps
returns-in-Some-clause-steps c =
    let nets = c.loop-self.self.nets.now in
    sym c.loop-self.invariant
    ∙ step_some nets c.loop-self.self.net c.loop-self.self.at c.index-self-self.result c.in-Some.fault (omega (arith, c.loop-self-test.true)) c.in-Some.ensures.value

pub returns-in-Some-clause-goes : goal.returns-in-Some-clause-goes
returns-in-Some-clause-goes c =
    let here = returns-in-Some-clause-steps c in
    record { on = λ _. (tt, tt, omega (arith, ap length here)); keeps = tt; rests = λ _. tt }

pub loop-self-preserved : goal.loop-self-preserved
loop-self-preserved c =
    let nets = c.loop-self.self.nets.now in
    sym (step_none nets c.loop-self.self.net c.loop-self.self.at c.index-self-self.result (omega (arith, c.loop-self-test.true)) c.in_default.ensures.value) ∙ c.loop-self.invariant
