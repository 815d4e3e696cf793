use Rattle.std.proofs.Common.{◌≡◌, sym, ap, ◌∙◌, arith}
use Rattle.refusal_places.specs.Starts.{statement_position}
use Rattle.play_explained.proofs.Passing.{none_further, passed_on}
use Rattle.play_explained.proofs.places.position_behind.Goals as goal

pub loop-here-preserved : goal.loop-here-preserved
loop-here-preserved c = record {
  at = passed_on c.args.text.now c.loop-here.here c.in-Some.next c.loop-here.invariant.at c.in-Some.ensures;
  ahead = omega (arith, c.loop-here-test.true, c.in-Some.ensures.count);
}

pub loop-here-smaller : goal.loop-here-smaller
loop-here-smaller c = omega (arith, c.loop-here-test.true, c.in-Some.ensures.count)

pub returns-in-None-clause-position : goal.returns-in-None-clause-position
returns-in-None-clause-position c =
    sym (none_further c.args.text.now c.loop-here.here c.args.number c.loop-here.invariant.at c.in-None.ensures (omega (arith, c.loop-here-test.true)))

pub returns-clause-position : goal.returns-clause-position
returns-clause-position c =
    let same : c.loop-here.here.count ≡ c.args.number = omega (arith, c.loop-here-test.false, c.loop-here.invariant.ahead) in
    c.loop-here.invariant.at.last ∙ ap (statement_position c.args.text.now) same
