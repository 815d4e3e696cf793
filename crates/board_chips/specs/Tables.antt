-- The table of the pins that a cell drives, with what was last put to their nets, and what a refresh makes of it.
use Rattle.std.specs.Prelude.{◌≡◌, ◌<◌, ◌+◌, ◌*◌, ◌%◌, true, false, ℕ, List, map, length, slice_get, slice_index, Some}
use Rattle.std.specs.List.{Contains, list_any}
use Rattle.jt_bits.specs.Packed.{has_bit}
use Rattle.bsdl_device.specs.declared.Cell.{Cell}
use Rattle.boundary.specs.Driven.{Tells}
use Rattle.boundary.specs.declared.DrivenCells.{DrivenCells}
use Rattle.pin_nets.specs.Wired.{Net}
use Rattle.pin_nets.specs.declared.Drive.{Drive}
use Rattle.board_plan.specs.Planned.{all_pins}
use Rattle.board_model.specs.Cells.{Member}
use Rattle.board_model.specs.Nets.{pin_drive}
use Rattle.board_chips.specs.WiringValues.{WiringValue}
use Rattle.board_chips.specs.Blocks.{AreParts, AreSlots, TellsBlock, stands}
use Rattle.board_chips.specs.Driving.{driving_from, drives_at, entry_drives, leaves_at}
use Rattle.board_chips.specs.DrivingTable.{DrivingTable}
use Rattle.board_chips.specs.WiredChips.{WiredChipValue, held_of}
use Rattle.board_chips.specs.Strings.{puts}
use Rattle.board_chips.specs.declared.driving.Block.{Block}
use Rattle.board_chips.specs.declared.driving.DrivingPin.{DrivingPin}
use Rattle.board_chips.specs.declared.strings.WiredString.{WiredString}

-- each of these pins is of one of so many devices
abbrev pub AreDrivenBelow : ℕ → List DrivingPin → Type 0
AreDrivenBelow n driving = (e : DrivingPin) → Contains driving e → e.device < n

-- ---- the table

-- these pins stand in the blocks or beside them
pub record IsTable (driving : List DrivingPin) (devices : ℕ) (d : DrivingTable) : Type 0 where
  pub close : List DrivingPin
  pub slots : AreSlots close devices d.blocks d.pins
  pub parts : AreParts driving close d.rest

-- the words that are kept tell what the pins of the blocks drive, by what was last put to their nets, given the cells
-- of each device
pub record WerePut (cells : List (List Cell)) (blocks : List Block) (pins : List ℕ) (put : List DrivenCells)
    (drives : List Drive) : Type 0 where
  pub long : length put ≡ length blocks
  pub each : (i j : ℕ) (b : Block) (p : DrivenCells) → slice_get blocks i ≡ Some b → slice_get put i ≡ Some p → j < 64
      → has_bit b.slots j ≡ true
      → Tells p (leaves_at cells b.device (b.first + j)) j (slice_get drives (slice_index pins (64 * i + j)))

-- a table of the pins that a cell drives, given the cells of each device, with what was last put to them
pub record IsDriving (cells : List (List Cell)) (w : WiringValue) (d : DrivingTable) : Type 0 where
  pub table : IsTable (driving_from cells 0 (all_pins w.nets)) (length cells) d
  pub put : WerePut cells d.blocks d.pins d.put w.drives
  pub full : length w.drives ≡ length (all_pins w.nets)

-- no string puts a pin that stands in a block
pub record IsApart (strings : List WiredString) (d : DrivingTable) : Type 0 where
  pub each : (i j : ℕ) (b : Block) → slice_get d.blocks i ≡ Some b → j < 64 → has_bit b.slots j ≡ true
      → list_any (puts (slice_index d.pins (64 * i + j))) strings ≡ false

-- ---- a refresh

-- what the pins are to drive
abbrev pub targets : List WiredChipValue → List Net → List Drive
targets chips nets = map (pin_drive (map held_of chips)) (all_pins nets)

-- a pin drives what it is to drive
abbrev pub Settled : (target drives : List Drive) → ℕ → Type 0
Settled target drives k = slice_get drives k ≡ slice_get target k

-- a pin that drives that still does
pub record Settles (target old new : List Drive) : Type 0 where
  pub long : length new ≡ length old
  pub each : (k : ℕ) → Settled target old k → Settled target new k

-- the pin of an entry is to drive what its cell drives
pub record IsTargeted (ms : List Member) (target : List Drive) (e : DrivingPin) : Type 0 where
  pub device : e.device < length ms
  pub pin : slice_get target e.pin ≡ Some (entry_drives ms e)

-- so are those of these slots of a block, whose pins begin at this place
pub record HasTargets (ms : List Member) (target : List Drive) (pins : List ℕ) (at : ℕ) (b : Block) (slots : ℕ)
    : Type 0 where
  pub each : (j : ℕ) → j < 64 → has_bit slots j ≡ true
      → slice_get target (slice_index pins (at + j)) ≡ Some (drives_at ms b.device (b.first + j))

pub record AreTargeted (ms : List Member) (target : List Drive) (pins : List ℕ) (at : ℕ) (b : Block) : Type 0 where
  pub device : b.device < length ms
  pub first : b.first % 64 ≡ 0
  pub slots : HasTargets ms target pins at b b.slots

-- a pin whose cell drives what was last put, as the words that are kept and those of now tell, drives that
pub record WasPut (cells : List (List Cell)) (ms : List Member) (target drives : List Drive) (pins : List ℕ) (at : ℕ)
    (b : Block) (put : DrivenCells) : Type 0 where
  pub each : (j : ℕ) → j < 64 → has_bit b.slots j ≡ true → (now : DrivenCells)
      → Tells now (leaves_at cells b.device (b.first + j)) j (Some (drives_at ms b.device (b.first + j)))
      → stands put now j ≡ true → Settled target drives (slice_index pins (at + j))

-- the pins of these slots drive what they are to drive
pub record SlotsSettled (target drives : List Drive) (pins : List ℕ) (at slots : ℕ) : Type 0 where
  pub each : (j : ℕ) → j < 64 → has_bit slots j ≡ true → Settled target drives (slice_index pins (at + j))

-- block i was refreshed: its pins drive what they are to drive, and the words that are kept tell that
pub record IsRefreshed (cells : List (List Cell)) (ms : List Member) (target drives : List Drive) (pins : List ℕ)
    (put : List DrivenCells) (i : ℕ) (b : Block) : Type 0 where
  pub settled : SlotsSettled target drives pins (64 * i) b.slots
  pub tells : (p : DrivenCells) → slice_get put i ≡ Some p → TellsBlock cells ms b p
