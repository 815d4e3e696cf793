use Rattle.std.proofs.Common.{◌≡◌, List, sym, ap, ◌∙◌}
use Rattle.svf_programs.specs.Left.{left}
use Rattle.svf_programs.specs.Seen.{numbered}
use Rattle.svf_programs.specs.Steps.{Numbered}
use Rattle.play_explained.specs.Wanted as wanted
use Rattle.play_explained.proofs.WantedSteps.{wanted_here, wanted_later}
use Rattle.play_explained.proofs.wanted.wanted_of.Goals as goal

pub loop-step-init : goal.loop-step-init
loop-step-init c =
    ap (λ (l : List Numbered). wanted.wanted_of l c.args.failure)
    (ap left c.into_iter-step-iterator.ensures.into_iter_gives ∙ c.steps-step-items.ensures)

pub returns-then-step-failure : goal.returns-then-step-failure
returns-then-step-failure c =
    let s : Numbered = numbered c.in-Some.step in
    let ss : List Numbered = left c.next.new.self in
    c.wanted_in.ensures
    ∙ sym (wanted_here s ss c.args.failure c.if-step-failure.true)
    ∙ ap (λ (l : List Numbered). wanted.wanted_of l c.args.failure) (sym c.in-Some.ensures.steps)
    ∙ c.loop-step.invariant

pub loop-step-preserved : goal.loop-step-preserved
loop-step-preserved c =
    let s : Numbered = numbered c.in-Some.step in
    let ss : List Numbered = left c.next.new.self in
    sym (wanted_later s ss c.args.failure c.if-step-failure.false)
    ∙ ap (λ (l : List Numbered). wanted.wanted_of l c.args.failure) (sym c.in-Some.ensures.steps)
    ∙ c.loop-step.invariant

pub returns : goal.returns
returns c =
    ap (λ (l : List Numbered). wanted.wanted_of l c.args.failure) (sym c.in-None.ensures.steps.0) ∙ c.loop-step.invariant
