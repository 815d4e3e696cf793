use Rattle.std.proofs.Common.{sym, ◌∙◌}
use Rattle.tck_cycles.specs.Sources.{whole}
use Rattle.tck_cycles.proofs.Places.{left_some, left_none}
use Rattle.tck_cycles.proofs.source.Source.alike.Goals as goal

pub returns-in-Some-clause-gives : goal.returns-in-Some-clause-gives
returns-in-Some-clause-gives c =
    let s = c.args.self.now in
    left_some (whole s) s.at c.in-Some.cycle (sym c.present.ensures ∙ c.in-Some.is)

pub returns-in-None-clause-none : goal.returns-in-None-clause-none
returns-in-None-clause-none c =
    let s = c.args.self.now in λ e. left_none (whole s) s.at (sym c.present.ensures ∙ c.in-None.is)
