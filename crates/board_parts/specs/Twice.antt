-- Pins that stand twice.
use Rattle.std.specs.Prelude.{◌≡◌, ◌<◌, ◌+◌, ◌*◌, ℕ, Bool, false, ◌||◌, List, [], ◌∷◌, ◌++◌, length, slice_index_or}
use Rattle.std.specs.List.{list_any}
use Rattle.pin_nets.specs.declared.Pin.{Pin}
use Rattle.board_parts.specs.Pins.{same_pin}

-- whether one of the pins stands before it, given the pins before them
abbrev pub is_some_twice : (before pins : List Pin) → Bool
is_some_twice before [] = false
is_some_twice before (p ∷ ps) = list_any (same_pin p) before || is_some_twice (before ++ p ∷ []) ps

-- the pin is one of the first ports of one of the first devices
pub record IsAmong (devices ports : ℕ) (p : Pin) : Type 0 where
  pub device : p.device < devices
  pub port : p.port < ports

-- where the pin stands in a table that has so many ports of each device
abbrev pub place_of : ℕ → Pin → ℕ
place_of ports p = p.device * ports + p.port

-- such a table is long enough for the pin
pub record IsWithin (ports room : ℕ) (p : Pin) : Type 0 where
  pub port : p.port < ports
  pub place : place_of ports p < room

-- the table tells these pins from all others
abbrev pub Marks : ℕ → List Pin → List Bool → Type 0
Marks ports pins table =
    (p : Pin) → IsWithin ports (length table) p
    → slice_index_or table (place_of ports p) false ≡ list_any (same_pin p) pins
