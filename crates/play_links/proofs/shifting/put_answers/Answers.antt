use Rattle.std.proofs.Common.{take, arith}
use Rattle.play_links.proofs.ShiftServes.{picked_none, put_no, put_yes}
use Rattle.play_links.proofs.shifting.put_answers.Goals as goal
use Rattle.play_links.proofs.shifting.put_answers.Goals.{then-run-k-eq1, else-run-k-eq1}

pub loop-k-init : goal.loop-k-init
loop-k-init c = record { few = omega arith; taken = picked_none c.args.run.reads c.args.out (take c.args.count c.args.answers.now) }

pub loop-k-preserved : goal.loop-k-preserved
loop-k-preserved c =
    let l = c.loop-k in
    let first = c.args.answers.now in
    elim c.if-run-k-eq1.branch [
      | then-run-k-eq1 w ↦ record {
        few = omega (arith, w.at-is, l.invariant.few);
        taken = put_yes first l.answers c.args.count l.at c.args.run.reads c.args.out l.k l.invariant.taken c.if-run-k-eq1.answers c.if-run-k-eq1.at w.answer.result
            (omega (arith, l.invariant.few, c.requires.room, l.auto.answers, c.loop-k-test.true)) w.if-run-k-eq1.true w.answer.ensures w.answers-is w.at-is;
      }
      | else-run-k-eq1 w ↦ record {
        few = omega (arith, w.at-is, l.invariant.few);
        taken = put_no first l.answers c.args.count l.at c.args.run.reads c.args.out l.k l.invariant.taken c.if-run-k-eq1.answers c.if-run-k-eq1.at w.if-run-k-eq1.false w.answers-is w.at-is;
      }
    ]
