use Rattle.std.proofs.Common.{List, get_or, ap, ◌∙◌}
use Rattle.chip_instructions.specs.declared.Mode.{Mode}
use Rattle.boundary.specs.Cells.{driven_in}
use Rattle.board_chips.specs.WiredChips.{chip_state, member_of}
use Rattle.board_model.specs.Chain.{members}
use Rattle.fault_events.proofs.PinDrives.{drive_at, member_at}
use Rattle.fault_events.proofs.drives.drive_of.Goals as goal

pub returns : goal.returns
returns c =
    let m = member_of c.chip.result.now in
    let ms = members c.args.chain.now.chips in
    let k = c.args.wire.device in
    let at = member_at c.args.chain.now.chips k (chip_state c.chip.result.now) c.chip.ensures in
    c.chip_drive.ensures
    ∙ ap (λ (l : List Mode). driven_in (get_or l k _) m.device.cells m.registers.update (get_or c.args.devices.now k c.index-devices-device.result).core c.args.wire.driver) c.requires.how
    ∙ drive_at ms c.args.devices.now c.requires.same k m at _ c.index-devices-device.result c.args.wire.driver
