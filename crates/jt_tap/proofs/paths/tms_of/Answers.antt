use Rattle.std.proofs.Common.{◌≡◌, sym, ◌∙◌, ap}
use denote.Enum.Bare.{same_false}
use Rattle.jt_tap.specs.contracts.State.{the_type}
use Rattle.jt_tap.specs.Controller.{next}
use Rattle.jt_tap.proofs.Arrows.{entered_by_one, next-arrow}
use Rattle.jt_tap.proofs.paths.tms_of.Goals as goal

pub returns-else-eq-clause-only : goal.returns-else-eq-clause-only
returns-else-eq-clause-only c = λ tms a.
    let e : c.step.result ≡ c.args.to =
    c.step.ensures.next ∙ ap (λ b. next c.args.from b) (c.entered_by-tms.ensures ∙ sym (entered_by_one _ _ _ a)) ∙ next-arrow _ _ _ a in
    absurd (same_false the_type _ _ (sym c.eq.ensures ∙ c.if-eq.false) e)
