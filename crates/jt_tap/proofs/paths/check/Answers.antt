use Rattle.std.proofs.Common.{refl, sym, ◌∙◌}
use Rattle.jt_tap.proofs.StatedPaths.{walks, has_no_gap}
use Rattle.jt_tap.proofs.paths.check.Goals as goal

pub returns-in-Some-clause-walk : goal.returns-in-Some-clause-walk
returns-in-Some-clause-walk c =
    let found = c.gap.ensures in
    let at = c.in-Some.is in
    (λ e. absurd (cc), λ w. let none = has_no_gap _ _ w in absurd (cc))

pub returns-in-None-clause-walk : goal.returns-in-None-clause-walk
returns-in-None-clause-walk c = (λ e. walks _ _ (sym c.gap.ensures ∙ c.in-None.is), λ w. refl)
