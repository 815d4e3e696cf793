use Rattle.std.proofs.Common.{◌≡◌, ℕ, Bool, refl, ap, subst}
use Rattle.boundary.specs.Cells.{BoundaryValue}
use Rattle.board_model.specs.Chain as chain
use Rattle.board_chips.specs.WiredChips.{IsSighted, WiredChipValue, chip_state, told_by}
use Rattle.board_chips.specs.contracts.chip.WiredChip.{the_view}
use Rattle.board_chips.proofs.EdgeLaws.{rises}
use Rattle.board_chips.proofs.chip.WiredChip.rise_told.Goals as goal

pub returns-clause-chip : goal.returns-clause-chip
returns-clause-chip c =
    let new = the_view (record c.self.inside { chip = c.rise.new.self }) in
    subst (λ (s : WiredChipValue). (sees : ℕ → Bool) → IsSighted sees s → chip_state new ≡ chain.rise s.chip.trst c.args.tms c.args.tdi (told_by sees s) (chip_state s))
    c.self.view_is
    (λ sees sighted. rises (the_view c.self.inside) c.self.invariant.cells new sees c.args.tms c.args.tdi c.rise.ensures.chip refl refl refl
    (ap (λ (b : BoundaryValue). b.extest_update) c.rise.ensures.boundary) sighted)
