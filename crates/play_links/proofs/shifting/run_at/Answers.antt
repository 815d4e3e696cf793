use Rattle.play_links.proofs.ShiftServes.{run_of, runs_more, runs_none}
use Rattle.play_links.proofs.shifting.run_at.Goals as goal

pub loop-run-init : goal.loop-run-init
loop-run-init c = runs_none c.args.bytes.now

pub returns-in-None : goal.returns-in-None
returns-in-None c = run_of c.loop-run.run.tdi c.loop-run.run.reads c.loop-run.run.count c.args.bytes.now c.loop-run.rest.now c.loop-run.invariant

pub loop-run-preserved : goal.loop-run-preserved
loop-run-preserved c =
    let l = c.loop-run in
    runs_more l.run.tdi l.run.reads l.run.count c.args.bytes.now l.rest.now c.in-Some.behind.now c.in-Some.cycle c.from.result c.from-in-Some.result c.from.ensures
    c.from-in-Some.ensures c.loop-run-test.true l.invariant c.in-Some.ensures.0 c.in-Some.ensures.1

pub returns : goal.returns
returns c = run_of c.loop-run.run.tdi c.loop-run.run.reads c.loop-run.run.count c.args.bytes.now c.loop-run.rest.now c.loop-run.invariant
