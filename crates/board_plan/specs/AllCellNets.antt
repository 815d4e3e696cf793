-- The nets that the cells of all devices are on, and tables of the nets of all port bits.
use Rattle.std.specs.Prelude.{◌≡◌, ◌<◌, ℕ, suc, List, [], ◌∷◌, length, map, replicate, set, slice_get, slice_index_or}
use Rattle.std.specs.Prelude.{Option, Some, None}
use Rattle.std.specs.Global.{Vec}
use Rattle.pin_nets.specs.declared.Pin.{Pin}
use Rattle.pin_nets.specs.Wired.{Net}
use Rattle.board_plan.specs.CellNets.{EntersNet, PortsFit, cell_net, first_net}
use Rattle.board_plan.specs.Planned.{Member}

-- of each device, from this place on, the nets of its cells
abbrev pub all_cell_nets : List Net → ℕ → List Member → List (List (Option ℕ))
all_cell_nets nets place [] = []
all_cell_nets nets place (m ∷ ms) = map (cell_net nets place) m.device.cells ∷ all_cell_nets nets (suc place) ms

-- no net joins a port bit past the last of its device
pub record AllPortsFit (members : List Member) (nets : List Net) : Type 0 where
  pub each : (place : ℕ) (m : Member) → slice_get members place ≡ Some m → PortsFit place (length m.device.ports) nets

-- the lists that vectors hold
abbrev pub lists_of : List (Vec (Option ℕ)) → List (List (Option ℕ))
lists_of vs = map (λ v. v.items) vs

-- of each port bit of each device no net
abbrev pub empty_tables : List Member → List (List (Option ℕ))
empty_tables members = map (λ m. replicate (length m.device.ports) None) members

-- the table of the device at a place
abbrev pub table_at : List (List (Option ℕ)) → ℕ → List (Option ℕ)
table_at tables place = slice_index_or tables place []

-- a number is entered in the table of a pin's device, at its port bit
abbrev pub with_pin : ℕ → Pin → List (List (Option ℕ)) → List (List (Option ℕ))
with_pin number pin tables = set tables pin.device (set (table_at tables pin.device) pin.port (Some number))

-- the pins of a net are entered at their port bits
pub record EntersPins (net : ℕ) (pins : List Pin) (old new : List (List (Option ℕ))) : Type 0 where
  pub long : length new ≡ length old
  pub each : (place : ℕ) → EntersNet place net pins (table_at old place) (table_at new place)

-- of each port bit of each device the first of these nets that joins it, the nets numbered from n on
pub record HaveNets (n : ℕ) (members : List Member) (nets : List Net) (tables : List (List (Option ℕ))) : Type 0 where
  pub long : length tables ≡ length members
  pub ports : (place : ℕ) (m : Member) → slice_get members place ≡ Some m
      → length (table_at tables place) ≡ length m.device.ports
  pub each : (place p : ℕ) → p < length (table_at tables place)
      → slice_index_or (table_at tables place) p None ≡ first_net place p n nets
