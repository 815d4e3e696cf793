use Rattle.std.proofs.Common.{◌∙◌, get_or, arith}
use Rattle.std.proofs.lemmas.List.{length-drop, take_rest}
use Rattle.bsdl_text.proofs.AloneLaws.{gap_front}
use Rattle.bsdl_text.proofs.Steps.{at_gap}
use Rattle.token_runs.proofs.CutSteps.{rest_of}
use Rattle.bsdl_text.proofs.tokens.scan.gaps_end.Goals as goal

pub loop-at-preserved : goal.loop-at-preserved
loop-at-preserved c =
    let source = c.args.source.now in
    let at = c.loop-at.at in
    let is = gap_front c.args.quoted (get_or source at 0) (rest_of source at) c.in-Some.more c.in-Some.ensures.value in (
      omega (arith, c.loop-at.invariant.0),
      omega (arith, simp (take_rest, length-drop) at c.in-Some.ensures.within),
      c.loop-at.invariant.2 ∙ at_gap c.args.quoted source at c.in-Some.more c.loop-at-test.true is,
    )
