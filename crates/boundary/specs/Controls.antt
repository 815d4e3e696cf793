-- Which cells of a device are disabled together (IEEE Std 1149.1-2001, Annex B.8.14: the control cell, its disabling
-- value and what it leaves).
use Rattle.std.specs.Prelude.{◌≡◌, ◌<◌, ◌+◌, Bool, true, false, ℕ, List, slice_get, option_and_then, option_map}
use Rattle.std.specs.Prelude.{All, Option, Some}
use Rattle.jt_bits.specs.Packed.{has_bit}
use Rattle.jt_bits.specs.Words.{bit_of}
use Rattle.bsdl_device.specs.declared.Cell.{Cell}
use Rattle.bsdl_device.specs.declared.Control3.{Control3}
use Rattle.boundary.specs.Cells.{same_bit}
use Rattle.boundary.specs.declared.controls.Controlled.{Controlled}
use Rattle.boundary.specs.declared.controls.Group.{Group}

abbrev pub control_at : List Cell → ℕ → Option Control3
control_at cells k = option_and_then (λ (c : Cell). c.control) (slice_get cells k)

-- whether its control disables cell k under these bits; None where it has none
abbrev pub disabled_by : List Cell → List Bool → ℕ → Option Bool
disabled_by cells bits k = option_map (λ (t : Control3). same_bit (bit_of bits t.cell) t.disabling) (control_at cells k)

-- whatever the bits, the cells of a group are disabled where its control cell has the bit that it says
pub record IsGroup (cells : List Cell) (g : Group) : Type 0 where
  pub each : (j : ℕ) → j < 64 → has_bit g.cells j ≡ true → (bits : List Bool)
      → disabled_by cells bits (g.first + j) ≡ Some (same_bit (bit_of bits g.control) g.disabling)

abbrev pub AreGroups : List Cell → List Group → Type 0
AreGroups cells groups = All (IsGroup cells) groups

-- a group among the 64 cells from the first on is of this control
pub record IsGroupOf (g : Group) (start : ℕ) (t : Control3) : Type 0 where
  pub first : g.first ≡ start
  pub control : g.control ≡ t.cell
  pub disabling : g.disabling ≡ t.disabling

-- so is group i
pub record IsAmong (groups : List Group) (i start : ℕ) (t : Control3) : Type 0 where
  pub g : Group
  pub at : slice_get groups i ≡ Some g
  pub of : IsGroupOf g start t

-- of the 64 cells from the first on those that their control lets drive, and those that it disables
pub record IsControlled (cells : List Cell) (bits : List Bool) (first : ℕ) (words : Controlled) : Type 0 where
  pub on : (j : ℕ) → j < 64 → has_bit words.on j ≡ true → disabled_by cells bits (first + j) ≡ Some false
  pub off : (j : ℕ) → j < 64 → has_bit words.off j ≡ true → disabled_by cells bits (first + j) ≡ Some true
