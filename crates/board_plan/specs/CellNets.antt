-- The nets that a device's cells are on: of each cell the first net that joins its port.
use Rattle.std.specs.Prelude.{◌≡◌, ◌<◌, ◌≤◌, ℕ, suc, List, [], ◌∷◌, length, slice_index_or, option_and_then, Option}
use Rattle.std.specs.Prelude.{Some, None, if◌then◌else◌}
use Rattle.chip_instructions.specs.Cell.{Cell}
use Rattle.pin_nets.specs.declared.Pin.{Pin}
use Rattle.pin_nets.specs.Wired.{Net, has_port_bit, joins}

-- the first net, from net n on, that joins a port bit of the device at a place
abbrev pub first_net : (place port n : ℕ) → List Net → Option ℕ
first_net place port n [] = None
first_net place port n (x ∷ xs) = if joins place port x then Some n else first_net place port (suc n) xs

-- the net of a cell's port
abbrev pub cell_net : List Net → ℕ → Cell → Option ℕ
cell_net nets place c = option_and_then (λ p. first_net place p 0 nets) c.port

-- no net joins a port bit past the first so many of the device at a place
pub record PortsFit (place ports : ℕ) (nets : List Net) : Type 0 where
  pub past : (p : ℕ) → ports ≤ p → first_net place p 0 nets ≡ None

-- the pins of a net are entered at their port bits, those of the device at this place
pub record EntersNet (place net : ℕ) (pins : List Pin) (old new : List (Option ℕ)) : Type 0 where
  pub long : length new ≡ length old
  pub each : (p : ℕ) → p < length old
      → slice_index_or new p None ≡ (if has_port_bit place p pins then Some net else slice_index_or old p None)

-- of each of the first port bits of the device at a place its net
pub record HasNets (place : ℕ) (nets : List Net) (table : List (Option ℕ)) : Type 0 where
  pub each : (p : ℕ) → p < length table → slice_index_or table p None ≡ first_net place p 0 nets

-- the net of a port bit, by such a table
abbrev pub net_by : List (Option ℕ) → Option ℕ → Option ℕ
net_by table None = None
net_by table (Some p) = slice_index_or table p None
