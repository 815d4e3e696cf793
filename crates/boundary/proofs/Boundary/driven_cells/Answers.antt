use Rattle.std.proofs.Common.{subst}
use Rattle.boundary.specs.Cells.{BoundaryValue}
use Rattle.boundary.specs.Driven.{TellsCells}
use Rattle.boundary.specs.contracts.Boundary.{the_view}
use Rattle.boundary.proofs.DrivenLaws.{told_core, told_nowhere, told_update}
use Rattle.boundary.proofs.Boundary.driven_cells.Goals as goal

pub returns-in-HighZ : goal.returns-in-HighZ
returns-in-HighZ c =
    subst (λ (b : BoundaryValue). TellsCells c.args.mode b c.args.first _) c.self.view_is
    (told_nowhere c.args.mode (the_view c.self.inside) c.args.first _ c.in-HighZ.is)

pub returns-in-Extest : goal.returns-in-Extest
returns-in-Extest c =
    let b = c.self.inside in
    subst (λ (b : BoundaryValue). TellsCells c.args.mode b c.args.first c.driven_from.result) c.self.view_is
    (told_update c.args.mode (the_view b) c.args.first c.driven_from.result c.in-Extest.is
    (c.driven_from.ensures (the_view b).cells c.self.invariant.plain c.self.invariant.controls))

pub returns-in-Core : goal.returns-in-Core
returns-in-Core c =
    let b = c.self.inside in
    subst (λ (b : BoundaryValue). TellsCells c.args.mode b c.args.first c.driven_from-in-Core.result) c.self.view_is
    (told_core c.args.mode (the_view b) c.args.first c.driven_from-in-Core.result c.in-Core.is
    (c.driven_from-in-Core.ensures (the_view b).cells c.self.invariant.plain c.self.invariant.controls))
