use Rattle.std.proofs.Common.{◌≡◌, subst, sym, ap, ◌∙◌}
use Rattle.boundary.specs.Cells.{driver_from}
use Rattle.board_model.specs.Cells as meant
use Rattle.board_chips.specs.WiredChips.{WiredChipValue, held_of}
use Rattle.board_chips.specs.contracts.chip.WiredChip.{the_view}
use Rattle.board_chips.proofs.DriveLaws.{drives_port}
use Rattle.board_chips.proofs.chip.WiredChip.drive.Goals as goal

pub returns : goal.returns
returns c =
    let s = c.self.inside in
    let driver-is = c.driver.ensures ∙ sym (ap (λ (v : WiredChipValue). driver_from c.args.port 0 v.chip.device.cells) c.self.view_is) in
    subst (λ (v : WiredChipValue). c.driven.result ≡ meant.drive (held_of v) c.args.port) c.self.view_is
    (drives_port (the_view s) c.args.port c.driver.result c.mode.result c.boundary.result.now c.driven.result c.self.invariant.cells driver-is
    c.mode.ensures c.boundary.ensures c.driven.ensures)
