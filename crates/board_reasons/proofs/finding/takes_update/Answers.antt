use Rattle.std.proofs.Common.{Bool, false, sym, ap, ◌∙◌}
use Rattle.chip_instructions.specs.Instruction.{meaning}
use Rattle.boundary.specs.Cells.{takes_update}
use Rattle.board_reasons.proofs.Instructions.{update_split}
use Rattle.board_reasons.proofs.finding.takes_update.Goals as goal

pub returns-then-updates : goal.returns-then-updates
returns-then-updates c =
    let mode = (meaning c.args.chip.now.chip.device c.args.chip.now.chip.latch).mode in
    c.is_in_extest.ensures ∙ ap (λ (b : Bool). takes_update b mode) (sym c.if-updates.true ∙ c.updates.ensures)

pub returns-else-updates : goal.returns-else-updates
returns-else-updates c =
    let mode = (meaning c.args.chip.now.chip.device c.args.chip.now.chip.latch).mode in
    c.if-updates.false ∙ sym (update_split false mode) ∙ ap (λ (b : Bool). takes_update b mode) (sym c.if-updates.false ∙ c.updates.ensures)
