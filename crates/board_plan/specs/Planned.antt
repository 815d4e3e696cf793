-- A board as it is wired, before power-up.
use Rattle.std.specs.Prelude.{◌≡◌, ◌<◌, ℕ, Bool, List, length, slice_get, Some}
use Rattle.std.specs.List.{flat_map}
use Rattle.chip_instructions.specs.Device.{Device}
use Rattle.pin_nets.specs.declared.Follow.{Follow}
use Rattle.pin_nets.specs.declared.Pin.{Pin}
use Rattle.pin_nets.specs.Wired.{Net}

-- A device: its name, what is described of it, its core's constant bits (one a cell, cell 0 first), the strings that
-- its core follows, and whether EXTEST captures the update stage.
pub record Member : Type 0 where
  pub name : List ℕ
  pub device : Device
  pub core : List Bool
  pub follows : List Follow
  pub extest_update : Bool

-- the devices, the first nearest the board's TDO, and the nets
pub record Wiring : Type 0 where
  pub members : List Member
  pub nets : List Net

-- the core has a bit for each cell
abbrev pub HasCore : Member → Type 0
HasCore m = length m.core ≡ length m.device.cells

-- the pin is a port bit of one of the devices
abbrev pub IsPinOf : List Member → Pin → Type 0
IsPinOf members p = (m : Member) × (slice_get members p.device ≡ Some m) × (p.port < length m.device.ports)

-- the pins of all nets
abbrev pub all_pins : List Net → List Pin
all_pins nets = flat_map (λ n. n.pins) nets
