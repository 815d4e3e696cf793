-- The pins of a board that a cell drives, each with that cell.
use Rattle.std.specs.Prelude.{ℕ, suc, List, [], ◌∷◌, map, slice_get, option_and_then, option_map}
use Rattle.std.specs.Prelude.{unwrap_or, Option, Some, None}
use Rattle.bsdl_device.specs.declared.Cell.{Cell}
use Rattle.chip_instructions.specs.Instruction.{meaning}
use Rattle.pin_nets.specs.declared.Drive.{Drive}
use Rattle.pin_nets.specs.declared.Drive.TheVariants.{Nothing}
use Rattle.pin_nets.specs.declared.Pin.{Pin}
use Rattle.pin_nets.specs.Wired.{Net}
use Rattle.boundary.specs.Cells.{driven_in, driver_from}
use Rattle.boundary.specs.Driven.{cell_leaves}
use Rattle.board_plan.specs.Planned.{all_pins}
use Rattle.board_model.specs.Cells.{Member}
use Rattle.board_chips.specs.declared.driving.DrivingPin.{DrivingPin}
use Rattle.board_chips.specs.WiredChips.{WiredChipValue}

abbrev pub cells_of : WiredChipValue → List Cell
cells_of s = s.chip.device.cells

-- what a cell of a device would drive its port with
abbrev pub cell_drives : Member → ℕ → Drive
cell_drives m k =
    driven_in (meaning m.device m.registers.latch).mode m.device.cells m.registers.update m.core (Some k)

-- what a cell of one of these devices drives
abbrev pub drives_at : List Member → (device cell : ℕ) → Drive
drives_at ms device cell = unwrap_or (option_map (λ m. cell_drives m cell) (slice_get ms device)) Nothing

-- what the control of a cell of one of these devices leaves on its pin, given the cells of each device
abbrev pub leaves_at : List (List Cell) → (device cell : ℕ) → Drive
leaves_at cells device cell = unwrap_or (option_map (λ cs. cell_leaves cs cell) (slice_get cells device)) Nothing

-- what the cell of an entry drives
abbrev pub entry_drives : List Member → DrivingPin → Drive
entry_drives ms e = drives_at ms e.device e.cell

-- the cell that drives a pin, given the cells of each device
abbrev pub driver_of : List (List Cell) → Pin → Option ℕ
driver_of cells pin = option_and_then (driver_from pin.port 0) (slice_get cells pin.device)

-- pin k before the others, if a cell drives it
abbrev pub with_driving : (k device : ℕ) → Option ℕ → List DrivingPin → List DrivingPin
with_driving k device None rest = rest
with_driving k device (Some c) rest = record { device = device; cell = c; pin = k } ∷ rest

-- those among the pins from pin k on
abbrev pub driving_from : List (List Cell) → ℕ → List Pin → List DrivingPin
driving_from cells k [] = []
driving_from cells k (p ∷ pins) = with_driving k p.device (driver_of cells p) (driving_from cells (suc k) pins)

abbrev pub driving_of : List WiredChipValue → List Net → List DrivingPin
driving_of chips nets = driving_from (map cells_of chips) 0 (all_pins nets)
