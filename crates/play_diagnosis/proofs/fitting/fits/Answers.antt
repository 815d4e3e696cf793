use Rattle.std.proofs.Common.{sym, ◌∙◌}
use Rattle.svf_programs.specs.Sizes.{program_of}
use Rattle.board_plan.specs.View.{wiring}
use Rattle.play_diagnosis.specs.Reading.{verdict_of}
use Rattle.play_diagnosis.proofs.ToldFits.{told_fits}
use Rattle.play_diagnosis.proofs.fitting.fits.Goals as goal

pub returns-in-Some-clause-fits : goal.returns-in-Some-clause-fits
returns-in-Some-clause-fits c =
    told_fits (program_of c.args.program.now) (wiring c.args.plan.now) (verdict_of c.args.said.now) c.args.way c.args.told c.requires.told c.in-Some.fits
    (sym c.by_told.ensures ∙ c.in-Some.is)

pub returns-then-not-may_fit-clause-fits : goal.returns-then-not-may_fit-clause-fits
returns-then-not-may_fit-clause-fits c = (λ holds. absurd cc, λ fit. absurd (c.may_fit.ensures c.if-not-may_fit.true fit))
