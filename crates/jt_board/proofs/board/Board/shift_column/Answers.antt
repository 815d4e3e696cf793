use Rattle.std.proofs.Common.{◌≡◌, ◌∙◌, List, Some, ap, sym, subst}
use Rattle.std.specs.Prelude.{slice_get}
use Rattle.board_model.specs.Chain.{BoardState, ChipState}
use Rattle.board_chain.specs.WiredChips.{chip_state}
use Rattle.jt_board.proofs.ShiftRuns.{dr_column, dr_first, ir_column, ir_first, shift_of}
use Rattle.jt_board.proofs.board.Board.shift_column.Goals as goal

pub returns-in-IrShift-clause-shifts : goal.returns-in-IrShift-clause-shifts
returns-in-IrShift-clause-shifts c =
    let same = ap (λ (b : BoardState). b.chips) c.self.view_is in
    let at = subst (λ (cs : List ChipState). slice_get cs 0 ≡ Some (chip_state c.chip.result.now)) same c.chip.ensures in
    ir_column c.args.self.now.chips (chip_state c.chip.result.now) at (sym c.state.ensures ∙ c.in-IrShift.is) (shift_of c.args.self.now c.requires).one

pub returns-in_default-clause-shifts : goal.returns-in_default-clause-shifts
returns-in_default-clause-shifts c =
    let same = ap (λ (b : BoardState). b.chips) c.self.view_is in
    let at = subst (λ (cs : List ChipState). slice_get cs 0 ≡ Some (chip_state c.chip.result.now)) same c.chip.ensures in
    dr_column c.args.self.now.chips (chip_state c.chip.result.now) at (λ e. c.in_default.not-IrShift (c.state.ensures ∙ e)) (shift_of c.args.self.now c.requires).one

pub returns-in-IrShift-clause-column : goal.returns-in-IrShift-clause-column
returns-in-IrShift-clause-column c =
    let same = ap (λ (b : BoardState). b.chips) c.self.view_is in
    let at = subst (λ (cs : List ChipState). slice_get cs 0 ≡ Some (chip_state c.chip.result.now)) same c.chip.ensures in
    ir_first c.args.self.now.chips (chip_state c.chip.result.now) at (sym c.state.ensures ∙ c.in-IrShift.is)

pub returns-in_default-clause-column : goal.returns-in_default-clause-column
returns-in_default-clause-column c =
    let same = ap (λ (b : BoardState). b.chips) c.self.view_is in
    let at = subst (λ (cs : List ChipState). slice_get cs 0 ≡ Some (chip_state c.chip.result.now)) same c.chip.ensures in
    dr_first c.args.self.now.chips
    (dr_column c.args.self.now.chips (chip_state c.chip.result.now) at (λ e. c.in_default.not-IrShift (c.state.ensures ∙ e)) (shift_of c.args.self.now c.requires).one)
