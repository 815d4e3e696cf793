-- What stands between two edges: every level is put, and every string holds.
use Rattle.std.specs.Prelude.{◌≡◌, Bool, ℕ, List, map}
use Rattle.pin_nets.specs.Wired.{Net}
use Rattle.board_model.specs.Chain.{ChipState}
use Rattle.board_model.specs.Following.{IsOrderOf}
use Rattle.board_model.specs.Nets.{in_force}
use Rattle.board_chips.specs.WiringValues.{WiringValue}
use Rattle.board_chips.specs.Driving.{cells_of}
use Rattle.board_chips.specs.DrivingTable.{DrivingTable}
use Rattle.board_chips.specs.WiredChips.{AllTold, IsKept, WiredChipValue, chip_state, held_of, member_of}
use Rattle.board_chips.specs.Strings.{AreStrung, placed_of}
use Rattle.board_chips.specs.Tables.{IsApart, IsDriving}
use Rattle.board_chips.specs.Wires.{IsWired}
use Rattle.board_chain.specs.Sweeping.{EachFrom}
use Rattle.board_chips.specs.declared.strings.WiredString.{WiredString}

-- What was put to the nets last is what each pin drives by the core bits that the boundaries hold, and these are those
-- in force: the strings are an order of work.
pub record IsSettled
    (chips : List WiredChipValue)
    (w : WiringValue)
    (d : DrivingTable)
    (strings : List WiredString) : Type 0
  where
    pub wired : IsWired chips w
    pub driving : IsDriving (map cells_of chips) w d
    pub apart : IsApart strings d
    pub strung : AreStrung w.nets (map cells_of chips) strings
    pub order : IsOrderOf w.nets (map member_of chips) (map placed_of strings)
    pub in_force : in_force w.nets (map member_of chips) ≡ map held_of chips

-- the registers of a device may be others
abbrev pub Keeps : ℕ → WiredChipValue → WiredChipValue → Type 0
Keeps place s t = IsKept s t

-- the same, while the registers of the devices were others
pub record WasSettled (chips : List WiredChipValue) (w : WiringValue) (d : DrivingTable) (strings : List WiredString)
    : Type 0 where
  pub before : List WiredChipValue
  pub settled : IsSettled before w d strings
  pub kept : EachFrom Keeps 0 before chips

-- ---- devices and nets between two edges, as contracts see them

pub record SettledValue : Type 0 where
  pub nets : List Net
  pub chips : List WiredChipValue

-- On the same nets the devices become what f makes of them. Where all were told a level of TRST last, they have now
-- been told the one that it leads to.
pub record Becomes (trst : Bool → Bool) (f : List ChipState → List ChipState) (old new : SettledValue) : Type 0 where
  pub chips : map chip_state new.chips ≡ f (map chip_state old.chips)
  pub told : (level : Bool) → AllTold level old.chips → AllTold (trst level) new.chips
  pub nets : new.nets ≡ old.nets

-- TRST as it was told
abbrev pub as_told : Bool → Bool
as_told level = level

-- the devices as they are
abbrev pub as_they_are : List ChipState → List ChipState
as_they_are chips = chips
