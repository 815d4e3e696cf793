use Rattle.std.proofs.Common.{◌≡◌, ℕ, Bool, refl, ap, subst}
use Rattle.boundary.specs.Cells.{BoundaryValue}
use Rattle.board_model.specs.Whole.{capture_member}
use Rattle.board_chips.specs.AtRest.{IsSightedFor, as_member}
use Rattle.board_chips.specs.WiredChips.{WiredChipValue, chip_state, member_of, told_by}
use Rattle.board_chips.specs.contracts.chip.WiredChip.{the_view}
use Rattle.board_chips.proofs.EdgeLaws.{captures}
use Rattle.board_chips.proofs.chip.WiredChip.capture_told.Goals as goal

pub returns-clause-chip : goal.returns-clause-chip
returns-clause-chip c =
    let new = the_view (record c.self.inside { chip = c.capture.new.self }) in
    subst (λ (s : WiredChipValue). (sees : ℕ → Bool) → IsSightedFor c.args.column sees s
    → chip_state new ≡ as_member (capture_member c.args.column (told_by sees s) (member_of s)) (chip_state s))
    c.self.view_is
    (λ sees sighted. captures
    (the_view c.self.inside) c.self.invariant.cells new sees c.args.column c.capture.ensures.chip refl refl refl
    (ap (λ (b : BoundaryValue). b.extest_update) c.capture.ensures.boundary) sighted)
