-- The pins that a cell drives, by blocks of 64 cells of a device.
use Rattle.std.specs.Prelude.{◌≡◌, ◌<◌, ◌+◌, ◌*◌, ◌%◌, Bool, true, false, ◌&&◌, ◌||◌, ℕ, List, length, slice_get}
use Rattle.std.specs.Prelude.{slice_index, Some, ◌⊎◌}
use Rattle.std.specs.List.{Contains}
use Rattle.jt_bits.specs.Packed.{has_bit}
use Rattle.bsdl_device.specs.declared.Cell.{Cell}
use Rattle.boundary.specs.Cells.{same_bit}
use Rattle.boundary.specs.Driven.{Tells, cell_leaves}
use Rattle.boundary.specs.declared.DrivenCells.{DrivenCells}
use Rattle.board_model.specs.Cells.{Member}
use Rattle.board_chips.specs.Driving.{cell_drives, drives_at, leaves_at}
use Rattle.board_chips.specs.declared.driving.Block.{Block}
use Rattle.board_chips.specs.declared.driving.DrivingPin.{DrivingPin}

-- ---- what 64 cells drive

-- the cells of a device from the first on drive what these words tell
pub record TellsOwn (m : Member) (first : ℕ) (now : DrivenCells) : Type 0 where
  pub each : (j : ℕ) → j < 64 → Tells now (cell_leaves m.device.cells (first + j)) j (Some (cell_drives m (first + j)))

-- so do those of a block, given the cells of each device
pub record TellsBlock (cells : List (List Cell)) (ms : List Member) (b : Block) (now : DrivenCells) : Type 0 where
  pub each : (j : ℕ) → j < 64
      → Tells now (leaves_at cells b.device (b.first + j)) j (Some (drives_at ms b.device (b.first + j)))

-- cell j drove its own bit, and drives the same; or it was disabled, and is; or it drove nothing in HIGHZ, and does
abbrev pub stands : (put now : DrivenCells) → ℕ → Bool
stands put now j =
    ((has_bit put.own j && has_bit now.own j) && same_bit (has_bit put.bits j) (has_bit now.bits j))
    || ((has_bit put.off j && has_bit now.off j) || (has_bit put.mute j && has_bit now.mute j))

-- ---- a pin at its place in a block

-- slot j of block i: the pin that the block's cell j drives
abbrev pub slot_of : List ℕ → ℕ → Block → ℕ → DrivingPin
slot_of pins i b j = record { device = b.device; cell = b.first + j; pin = slice_index pins (64 * i + j) }

-- a pin stands in a slot of one of the blocks
pub record IsSlot (blocks : List Block) (pins : List ℕ) (e : DrivingPin) : Type 0 where
  pub i : ℕ
  pub j : ℕ
  pub b : Block
  pub at : slice_get blocks i ≡ Some b
  pub within : j < 64
  pub marked : has_bit b.slots j ≡ true
  pub is : slot_of pins i b j ≡ e

-- a block begins at a multiple of 64 and is of one of so many devices
pub record IsBlock (devices : ℕ) (b : Block) : Type 0 where
  pub device : b.device < devices
  pub first : b.first % 64 ≡ 0

-- the slots of the blocks are these pins
pub record AreSlots (driving : List DrivingPin) (devices : ℕ) (blocks : List Block) (pins : List ℕ) : Type 0 where
  pub long : length pins ≡ 64 * length blocks
  pub within : (i : ℕ) (b : Block) → slice_get blocks i ≡ Some b → IsBlock devices b
  pub each : (i j : ℕ) (b : Block) → slice_get blocks i ≡ Some b → j < 64 → has_bit b.slots j ≡ true
      → Contains driving (slot_of pins i b j)
  pub all : (e : DrivingPin) → Contains driving e → IsSlot blocks pins e

-- block i has a free slot for this pin
pub record HasRoom (blocks : List Block) (i : ℕ) (e : DrivingPin) : Type 0 where
  pub b : Block
  pub inside : i < length blocks
  pub at : slice_get blocks i ≡ Some b
  pub device : b.device ≡ e.device
  pub first : b.first + e.cell % 64 ≡ e.cell
  pub free : has_bit b.slots (e.cell % 64) ≡ false

-- the pins of a list are those of two
pub record AreParts (all one other : List DrivingPin) : Type 0 where
  pub first : (e : DrivingPin) → Contains one e → Contains all e
  pub second : (e : DrivingPin) → Contains other e → Contains all e
  pub both : (e : DrivingPin) → Contains all e → Contains one e ⊎ Contains other e
