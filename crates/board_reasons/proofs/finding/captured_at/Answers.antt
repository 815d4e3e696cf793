use Rattle.std.proofs.Common.{◌≡◌, Bool, Option, Some, None, option_map, slice_get, sym, ap, ◌∙◌}
use Rattle.std.specs.Prelude.{unwrap_or}
use Rattle.bsdl_device.specs.Device.{Device}
use Rattle.bsdl_device.specs.declared.Cell.{Cell}
use Rattle.chip_instructions.specs.Instruction.{meaning}
use Rattle.boundary.specs.Cells.{takes_update}
use Rattle.board_model.specs.Chain.{members}
use Rattle.board_chips.specs.WiredChips.{chip_state, member_of}
use Rattle.board_reasons.specs.declared.origins.Captured.TheVariants.{Core}
use Rattle.board_reasons.specs.declared.origins.NetLevel.{NetLevel}
use Rattle.board_reasons.specs.Holders.{captured_by, cell_captured}
use Rattle.board_reasons.proofs.Walks.{alike_at, member_there}
use Rattle.board_reasons.proofs.finding.captured_at.Goals as goal

pub returns-in-Some : goal.returns-in-Some
returns-in-Some c =
    let chip = c.args.chip.now in
    let chain = c.args.chain.now in
    let ms = members chain.chips in
    let found = c.in-Some.found in
    let mode = (meaning chip.chip.device chip.chip.latch).mode in
    let here : slice_get chip.chip.device.cells c.args.cell ≡ Some found =
    ap (λ (d : Device). slice_get d.cells c.args.cell) (sym c.device.ensures) ∙ sym c.cell_at.ensures ∙ c.in-Some.is in
    let alike = alike_at c.args.devices.now ms c.args.device (member_of chip) c.requires.alike (member_there chain.chips c.args.device (chip_state chip) c.requires.chip) in
    c.captured_by.ensures
    ∙ ap (λ (b : Bool). captured_by b c.cell_level-net.result found.port found.function)
    (c.takes_update-from_update.ensures ∙ ap (λ (e : Bool). takes_update e mode) alike)
    ∙ ap (λ (n : Option NetLevel). captured_by (takes_update chip.chip.boundary.extest_update mode) n found.port found.function) c.cell_level-net.ensures
    ∙ ap (λ (o : Option Cell). unwrap_or (option_map (cell_captured chain.nets ms c.args.device c.args.cell (member_of chip)) o) Core) (sym here)

pub returns-in-None : goal.returns-in-None
returns-in-None c =
    let chip = c.args.chip.now in
    let chain = c.args.chain.now in
    let ms = members chain.chips in
    let here : slice_get chip.chip.device.cells c.args.cell ≡ None =
    ap (λ (d : Device). slice_get d.cells c.args.cell) (sym c.device.ensures) ∙ sym c.cell_at.ensures ∙ c.in-None.is in
    ap (λ (o : Option Cell). unwrap_or (option_map (cell_captured chain.nets ms c.args.device c.args.cell (member_of chip)) o) Core) (sym here)
