use Rattle.std.proofs.Common.{length, sym, ap, ◌∙◌}
use Rattle.boundary.specs.Cells.{BoundaryValue, takes_update, captured_bits, at_reset}
use Rattle.boundary.proofs.CellLaws.{capture-length, reset-length}
use Rattle.boundary.proofs.BoundaryRegister.len.Goals as goal

pub returns-clause-captured : goal.returns-clause-captured
returns-clause-captured c = λ mode.
    let i = c.self.inside in
    let shown = c.self.view_is in
    ap (λ (b : BoundaryValue). length (captured_bits b mode)) (sym shown)
    ∙ capture-length i.device.cells i.seen i.update i.core (takes_update i.extest_update mode) c.self.invariant.seen c.self.invariant.update c.self.invariant.core
    ∙ sym c.self.invariant.stage ∙ ap (λ (b : BoundaryValue). length b.stage) shown

pub returns-clause-at_reset : goal.returns-clause-at_reset
returns-clause-at_reset c =
    let i = c.self.inside in
    let shown = c.self.view_is in
    ap (λ (b : BoundaryValue). length (at_reset b)) (sym shown) ∙ reset-length i.device.cells 0 i.device.cells i.update ∙ c.self.invariant.update ∙ sym c.self.invariant.stage
    ∙ ap (λ (b : BoundaryValue). length b.stage) shown
