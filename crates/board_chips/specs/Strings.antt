-- The strings of a chain as the code settles them: each core bit takes what its source sees, and the pin that takes it
-- is put anew.
use Rattle.std.specs.Prelude.{◌≡◌, ◌<◌, ◌==◌, true, false, ℕ, Bool, List, [], length, slice_get, slice_set, Some, None}
use Rattle.std.specs.List.{Contains}
use Rattle.bsdl_device.specs.declared.Cell.{Cell}
use Rattle.pin_nets.specs.declared.Pin.{Pin}
use Rattle.pin_nets.specs.Wired.{Net}
use Rattle.board_plan.specs.CellNets.{first_net}
use Rattle.board_plan.specs.Planned.{all_pins}
use Rattle.board_model.specs.Following.{Placed, takes_from}
use Rattle.board_chips.specs.declared.strings.WiredString.{WiredString}
use Rattle.board_chips.specs.WiredChips.{WiredChipValue}

-- the string of the meaning
abbrev pub placed_of : WiredString → Placed
placed_of s = record { device = s.device; string = record { cell = s.cell; source = s.source; inverted = s.inverted } }

-- A string is wired as the board is, given the cells of each device: it has its source's net and, of all pins, the one
-- that takes its core bit.
pub record IsStrung (nets : List Net) (cells : List (List Cell)) (s : WiredString) : Type 0 where
  pub mine : List Cell
  pub stands : slice_get cells s.device ≡ Some mine
  pub there : s.cell < length mine
  pub net : s.net ≡ first_net s.device s.source 0 nets
  pub inside : (k : ℕ) → s.pin ≡ Some k → k < length (all_pins nets)
  pub pin : (k : ℕ) (p : Pin) → slice_get (all_pins nets) k ≡ Some p → p.device ≡ s.device
      → takes_from p.port s.cell 0 mine ≡ true → s.pin ≡ Some k

-- each of these is
abbrev pub AreStrung : List Net → List (List Cell) → List WiredString → Type 0
AreStrung nets cells strings = (s : WiredString) → Contains strings s → IsStrung nets cells s

-- whether a string puts this pin
abbrev pub puts : ℕ → WiredString → Bool
puts k s = elim s.pin [
  | None ↦ false
  | Some pin ↦ pin == k
]

-- a device whose boundary holds this core bit at a cell
abbrev pub with_core : WiredChipValue → (cell : ℕ) → Bool → WiredChipValue
with_core s cell b =
    record s {
      chip =
          record s.chip { boundary = record s.chip.boundary { core = slice_set s.chip.boundary.core cell b } };
    }

-- the device without the core bits that its boundary holds, which strings alone change
abbrev pub less_core : WiredChipValue → WiredChipValue
less_core s = record s { chip = record s.chip { boundary = record s.chip.boundary { core = [] } } }
