-- The strings of a planned board, wired.
use Rattle.std.specs.Prelude.{◌≡◌, ◌≢◌, ◌<◌, true, ℕ, suc, List, [], ◌∷◌, ◌++◌, map, length, slice_get, slice_index_or}
use Rattle.std.specs.Prelude.{Option, Some, None, option_and_then}
use Rattle.std.specs.List.{AllByRecursion, AllPairs}
use Rattle.bsdl_device.specs.Device.{Device}
use Rattle.bsdl_device.specs.declared.Cell.{Cell}
use Rattle.boundary.specs.Cells.{driver_from}
use Rattle.pin_nets.specs.declared.Follow.{Follow}
use Rattle.pin_nets.specs.declared.Pin.{Pin}
use Rattle.board_plan.specs.AllCellNets.{table_at}
use Rattle.board_plan.specs.CellNets.{net_by}
use Rattle.board_plan.specs.Planned.{IsPinOf, all_pins}
use Rattle.board_plan.specs.Planned as planned
use Rattle.board_model.specs.Following.{IsAmong, Placed, takes_from}
use Rattle.board_chips.specs.declared.strings.WiredString.{WiredString}

-- a string of the device at a place
abbrev pub at_place : ℕ → Follow → Placed
at_place place f = record { device = place; string = f }

-- the strings of the devices from this place on
abbrev pub strings_from : ℕ → List planned.Member → List Placed
strings_from place [] = []
strings_from place (m ∷ ms) = map (at_place place) m.follows ++ strings_from (suc place) ms

-- The strings of a board, by devices and then strings.
abbrev pub strings_of : List planned.Member → List Placed
strings_of ms = strings_from 0 ms

-- The string's source is a port bit of the device, its cell is there, and drives each port bit that takes its core bit.
pub record CanBeWired (d : Device) (f : Follow) : Type 0 where
  pub source : f.source < length d.ports
  pub cell : f.cell < length d.cells
  pub alone : (p : ℕ) → takes_from p f.cell 0 d.cells ≡ true → driver_from p 0 d.cells ≡ Some f.cell

-- so are all strings of a device
abbrev pub HasStringsToWire : planned.Member → Type 0
HasStringsToWire m = (f : Follow) → IsAmong f m.follows → CanBeWired m.device f

-- the pins of the nets are port bits, none stands twice, and the strings can be wired
pub record IsReadyForStrings (w : planned.Wiring) : Type 0 where
  pub pins : AllByRecursion (IsPinOf w.members) (all_pins w.nets)
  pub apart : AllPairs (λ (p q : Pin). p ≢ q) (all_pins w.nets)
  pub strings : AllByRecursion HasStringsToWire w.members

-- ---- by tables

-- the port bit that a cell is at
abbrev pub port_at : List Cell → ℕ → Option ℕ
port_at cells k = option_and_then (λ (c : Cell). c.port) (slice_get cells k)

-- a string of the device at a place, given of its port bits their nets and the numbers of their pins
abbrev pub string_by : (place : ℕ) → List Cell → (nets pins : List (Option ℕ)) → Follow → WiredString
string_by place cells nets pins f = record {
  device = place;
  cell = f.cell;
  source = f.source;
  inverted = f.inverted;
  net = net_by nets (Some f.source);
  pin = net_by pins (port_at cells f.cell);
}

-- Of each port bit of the device at a place the number of a pin that it is, among the first n of these, if it is one.
pub record HasPins (place : ℕ) (pins : List Pin) (n : ℕ) (table : List (Option ℕ)) : Type 0 where
  pub only : (port k : ℕ) → slice_index_or table port None ≡ Some k
      → slice_get pins k ≡ Some (record { device = place; port = port })
  pub all : (k port : ℕ) → k < n → slice_get pins k ≡ Some (record { device = place; port = port })
      → port < length table → (j : ℕ) × (slice_index_or table port None ≡ Some j)

-- Of each port bit of each device the number of a pin that it is, among the first n of these, if it is one.
pub record HaveNumbers
    (members : List planned.Member)
    (pins : List Pin)
    (n : ℕ)
    (tables : List (List (Option ℕ))) : Type 0
  where
    pub long : length tables ≡ length members
    pub ports : (place : ℕ) (m : planned.Member) → slice_get members place ≡ Some m
        → length (table_at tables place) ≡ length m.device.ports
    pub each : (place : ℕ) → HasPins place pins n (table_at tables place)
