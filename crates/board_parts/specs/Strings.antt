-- The strings of a core that follows: which core bit of a device takes what which of its port bits sees.
use Rattle.std.specs.Prelude.{⊤}
use Rattle.std.specs.Prelude.{◌≡◌, ◌<◌, ℕ, Bool, true, false, ◌==◌, List, [], ◌∷◌, ◌++◌, length, map, slice_get}
use Rattle.std.specs.Prelude.{Option, Some, None, option_map, option_and_then, if◌then◌else◌}
use Rattle.std.specs.List.{list_any, AllByRecursion}
use Rattle.bsdl_device.specs.Device.{Device, PortBit}
use Rattle.bsdl_device.specs.declared.PortMode.{PortMode}
use Rattle.bsdl_device.specs.declared.PortMode.TheVariants.{In, InOut}
use Rattle.boundary.specs.Cells.{driver_from}
use Rattle.board_tables.specs.PinTexts.{PortText}
use Rattle.board_tables.specs.FollowTexts.{FollowText, follow_of}
use Rattle.board_parts.specs.Pins.{pin_bit}
use Rattle.pin_nets.specs.declared.Follow.{Follow}
use Rattle.board_plan.specs.Planned.{Member}

-- the core bit of a target: that of the cell that drives this port bit
abbrev pub target_of : Device → PortText → Option ℕ
target_of d p = option_and_then (λ bit. driver_from bit 0 d.cells) (pin_bit d p.name p.index)

-- a port bit of this mode may be followed
abbrev pub is_source : PortMode → Bool
is_source In = true
is_source InOut = true
is_source _ = false

-- the port bit of this number, if it may be followed
abbrev pub readable : Device → ℕ → Option ℕ
readable d k = option_and_then (λ (bit : PortBit). if is_source bit.mode then Some k else None) (slice_get d.ports k)

-- the port bit of a source
abbrev pub source_of : Device → PortText → Option ℕ
source_of d p = option_and_then (readable d) (pin_bit d p.name p.index)

-- a string from this cell's core bit to this port bit
abbrev pub string_to : FollowText → ℕ → ℕ → Follow
string_to f cell source = record { cell = cell; source = source; inverted = f.inverted }

abbrev pub said_by : Device → FollowText → Option Follow
said_by d f = option_and_then (λ cell. option_map (string_to f cell) (source_of d f.source)) (target_of d f.target)

-- The string that a text says of a device: none where the text spells none, or a port does not fit.
unfoldable pub string_of : Device → List ℕ → Option Follow
string_of d text = option_and_then (said_by d) (follow_of text)

-- the cells that strings are for
abbrev pub cells_of : List Follow → List ℕ
cells_of fs = map (λ (f : Follow). f.cell) fs

-- whether one of these is for this cell
abbrev pub has_cell : ℕ → List Follow → Bool
has_cell cell fs = list_any (λ (f : Follow). cell == f.cell) fs

-- these strings, and behind them those that texts say, if each says one and no cell has two
abbrev pub strings_after : Device → (before : List Follow) → List (List ℕ) → Option (List Follow)
strings_after d before [] = Some before
strings_after d before (text ∷ texts) = elim (string_of d text) [
  | None ↦ None
  | Some f ↦ if has_cell f.cell before then None else strings_after d (before ++ f ∷ []) texts
]

-- The strings that texts say of a device, if each says one and no target has two.
abbrev pub strings_of : Device → List (List ℕ) → Option (List Follow)
strings_of d texts = strings_after d [] texts

-- ---- what holds of them

-- the string's cell drives a port bit, its target, and its source is a port bit
pub record IsStringOf (d : Device) (f : Follow) : Type 0 where
  pub target : ℕ
  pub inside : target < length d.ports
  pub drives : driver_from target 0 d.cells ≡ Some f.cell
  pub cell : f.cell < length d.cells
  pub source : f.source < length d.ports

-- each is for another cell than those before it
abbrev pub HaveOneEach : (before strings : List Follow) → Type 0
HaveOneEach before [] = ⊤
HaveOneEach before (f ∷ fs) = (has_cell f.cell before ≡ false) × HaveOneEach (before ++ f ∷ []) fs

-- a device's strings fit it, and no cell has two
pub record HasStrings (m : Member) : Type 0 where
  pub each : AllByRecursion (IsStringOf m.device) m.follows
  pub one : HaveOneEach [] m.follows
