-- What a port bit drives, by its driving cell.
use Rattle.std.proofs.Common.{◌≡◌, ℕ, List, Option, ap, ◌∙◌}
use Rattle.bsdl_device.specs.declared.Cell.{Cell}
use Rattle.chip_instructions.specs.declared.Mode.{Mode}
use Rattle.chip_instructions.specs.Instruction.{meaning}
use Rattle.pin_nets.specs.declared.Drive.{Drive}
use Rattle.boundary.specs.Cells.{BoundaryValue, driven_in, driver_from}
use Rattle.boundary.proofs.DriverLaws.{driven_by_cell}
use Rattle.board_model.specs.Cells.{drive}
use Rattle.board_chips.specs.WiredChips.{WiredChipValue, held_of}

pub drives_port : (s : WiredChipValue) (port : ℕ) (driver : Option ℕ) (mode : Mode) (b : BoundaryValue) (d : Drive)
    → s.chip.boundary.cells ≡ s.chip.device.cells → driver ≡ driver_from port 0 s.chip.device.cells
    → mode ≡ (meaning s.chip.device s.chip.latch).mode → b ≡ s.chip.boundary → d ≡ driven_in mode b.cells b.update b.core driver
    → d ≡ drive (held_of s) port
drives_port s port driver mode b d cells driver-is at same is =
    let own = s.chip.boundary in
    let m = (meaning s.chip.device s.chip.latch).mode in
    is
    ∙ ap (λ (x : Mode). driven_in x b.cells b.update b.core driver) at
    ∙ ap (λ (x : BoundaryValue). driven_in m x.cells x.update x.core driver) same
    ∙ ap (λ (cs : List Cell). driven_in m cs own.update own.core driver) cells
    ∙ ap (λ (o : Option ℕ). driven_in m s.chip.device.cells own.update own.core o) driver-is
    ∙ driven_by_cell m s.chip.device.cells own.update own.core port
