-- The pins of a board's nets by numbers, net after net: of each port bit of each device the number of its pin.
use Rattle.std.specs.Prelude.{◌≡◌, ◌==◌, ℕ, suc, List, [], ◌∷◌, length, map, replicate, slice_get, slice_set, Option}
use Rattle.std.specs.Prelude.{Some, None, if◌then◌else◌}
use Rattle.pin_nets.specs.declared.Pin.{Pin}
use Rattle.board_plan.specs.Planned.{IsPinOf, Member}
use Rattle.fault_events.specs.declared.tables.PinNumbers.{PinNumbers}
use Rattle.fault_events.specs.Drives.{wire_of}

-- a pin is entered by its number at its port bit, if it is one of this device
abbrev pub with_pin : (device n : ℕ) → Pin → List (Option ℕ) → List (Option ℕ)
with_pin device n p table = if p.device == device then slice_set table p.port (Some n) else table

-- pins, numbered from n on
abbrev pub entered : (device n : ℕ) → List Pin → List (Option ℕ) → List (Option ℕ)
entered device n [] table = table
entered device n (p ∷ ps) table = entered device (suc n) ps (with_pin device n p table)

abbrev pub table_of : List Pin → (device : ℕ) → Member → List (Option ℕ)
table_of pins device m = entered device 0 pins (replicate (length m.device.ports) None)

-- of devices from one on
abbrev pub tables_from : List Pin → (device : ℕ) → List Member → List (List (Option ℕ))
tables_from pins device [] = []
tables_from pins device (m ∷ ms) = table_of pins device m ∷ tables_from pins (suc device) ms

abbrev pub tables_of : List Pin → List Member → List (List (Option ℕ))
tables_of pins ms = tables_from pins 0 ms

-- each pin has one number
abbrev pub AreApart : List Pin → Type 0
AreApart pins = (i j : ℕ) (p : Pin) → slice_get pins i ≡ Some p → slice_get pins j ≡ Some p → i ≡ j

-- each pin is a port bit of one of the devices
abbrev pub ArePorts : List Member → List Pin → Type 0
ArePorts ms pins = (n : ℕ) (p : Pin) → slice_get pins n ≡ Some p → IsPinOf ms p

-- the pins of a board of these devices, with their numbers and driving cells
pub record AreNumbered (ms : List Member) (n : PinNumbers) : Type 0 where
  pub apart : AreApart n.pins.items
  pub ports : ArePorts ms n.pins.items
  pub tables : map (λ t. t.items) n.tables.items ≡ tables_of n.pins.items ms
  pub wires : n.wires.items ≡ map (wire_of ms) n.pins.items
