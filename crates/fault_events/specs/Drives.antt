-- What numbered pins drive, by their driving cells.
use Rattle.std.specs.Prelude.{⊤, ◌≡◌, false, ℕ, List, [], ◌∷◌, length, map, slice_get, option_map, unwrap_or, Option}
use Rattle.std.specs.Prelude.{Some, None}
use Rattle.chip_instructions.specs.Instruction.{meaning}
use Rattle.chip_instructions.specs.declared.Mode.{Mode}
use Rattle.boundary.specs.Cells.{AreDrivers, driven_in, driver_from}
use Rattle.pin_nets.specs.declared.Drive.{Drive}
use Rattle.pin_nets.specs.declared.Drive.TheVariants.{Nothing}
use Rattle.pin_nets.specs.declared.Pin.{Pin}
use Rattle.board_plan.specs.Planned as planned
use Rattle.board_model.specs.Cells.{Member}
use Rattle.board_faults.specs.Together.{driven}
use Rattle.fault_events.specs.declared.drives.PinWire.{PinWire}
use Rattle.fault_events.specs.declared.notes.Note.{Note}
use Rattle.fault_events.specs.Numbers.{number_in}

-- the cell that drives a port bit of a device, if there is the device
abbrev pub driver_at : (port : ℕ) → Option planned.Member → Option ℕ
driver_at port None = None
driver_at port (Some m) = driver_from port 0 m.device.cells

abbrev pub wire_of : List planned.Member → Pin → PinWire
wire_of ps pin = record { device = pin.device; driver = driver_at pin.port (slice_get ps pin.device) }

-- ---- the driving cells by tables, one a device

-- of each port bit of a device
pub record HasDrivers (m : planned.Member) (table : List (Option ℕ)) : Type 0 where
  pub long : length table ≡ length m.device.ports
  pub drivers : AreDrivers m.device.cells table

abbrev pub AreDriverTables : List planned.Member → List (List (Option ℕ)) → Type 0
AreDriverTables [] [] = ⊤
AreDriverTables (m ∷ ms) (t ∷ ts) = HasDrivers m t × AreDriverTables ms ts
AreDriverTables _ _ = ⊥

abbrev pub wire_in : List (List (Option ℕ)) → Pin → PinWire
wire_in tables pin = record { device = pin.device; driver = number_in tables pin.device pin.port }

-- ---- what is driven

abbrev pub mode_of : Member → Mode
mode_of m = (meaning m.device m.registers.latch).mode

abbrev pub modes : List Member → List Mode
modes ms = map mode_of ms

-- what a pin drives whose driving cell is this
abbrev pub member_drive : Option ℕ → Member → Drive
member_drive driver m = driven_in (mode_of m) m.device.cells m.registers.update m.core driver

abbrev pub wire_drive : List Member → PinWire → Drive
wire_drive ms w = unwrap_or (option_map (member_drive w.driver) (slice_get ms w.device)) Nothing

-- what is noted of a pin before any bit is marked
abbrev pub started : List Member → PinWire → Note
started ms w = record { made = driven (wire_drive ms w ∷ []); first = None; stays = false }
