use Rattle.std.proofs.Common.{◌==◌, arith}
use Rattle.play_diagnosis.proofs.Cutting.{cut_before, cut_nowhere}
use Rattle.play_diagnosis.proofs.lines.cut.Goals as goal

pub returns-in-Some-clause-pieces : goal.returns-in-Some-clause-pieces
returns-in-Some-clause-pieces c =
    let first = c.in-Some.ensures in
    cut_before (λ b. b == c.args.byte) c.args.text.now c.in-Some.at first.0.high first.1 (λ k below. first.0.before k (omega arith) below)

pub returns-in-None-clause-pieces : goal.returns-in-None-clause-pieces
returns-in-None-clause-pieces c =
    cut_nowhere (λ b. b == c.args.byte) c.args.text.now (λ k below. c.in-None.ensures k (omega arith) below)
