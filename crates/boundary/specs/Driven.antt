-- What 64 cells drive, as words tell it.
use Rattle.std.specs.Prelude.{◌≡◌, ◌<◌, ◌+◌, Bool, true, ℕ, List, Option, Some, None}
use Rattle.jt_bits.specs.Packed.{has_bit}
use Rattle.bsdl_device.specs.declared.Cell.{Cell}
use Rattle.bsdl_device.specs.declared.Control3.{Control3}
use Rattle.chip_registers.specs.Mode.{Mode}
use Rattle.pin_nets.specs.declared.Drive.{Drive}
use Rattle.pin_nets.specs.declared.Drive.TheVariants.{Strong, Nothing}
use Rattle.boundary.specs.Cells.{BoundaryValue, drive_of_driver, driven_in, left_by}
use Rattle.boundary.specs.Controls.{control_at}
use Rattle.boundary.specs.declared.DrivenCells.{DrivenCells}

-- what a control leaves on the pins of cells that it disables
abbrev pub leaves : Option Control3 → Drive
leaves None = Nothing
leaves (Some t) = left_by t.leaves

abbrev pub cell_leaves : List Cell → ℕ → Drive
cell_leaves cells k = leaves (control_at cells k)

-- cell j drives what the words tell, where this is what its control leaves
pub record Tells (words : DrivenCells) (left : Drive) (j : ℕ) (drive : Option Drive) : Type 0 where
  pub own : has_bit words.own j ≡ true → drive ≡ Some (Strong (has_bit words.bits j))
  pub off : has_bit words.off j ≡ true → drive ≡ Some left
  pub mute : has_bit words.mute j ≡ true → drive ≡ Some Nothing

-- so do the 64 cells from the first on, under the bits in force
pub record TellsBy (cells : List Cell) (bits : List Bool) (first : ℕ) (words : DrivenCells) : Type 0 where
  pub each : (j : ℕ) → j < 64
      → Tells words (cell_leaves cells (first + j)) j (Some (drive_of_driver bits (Some (first + j)) cells))

-- and in a mode
pub record TellsCells (mode : Mode) (b : BoundaryValue) (first : ℕ) (words : DrivenCells) : Type 0 where
  pub each : (j : ℕ) → j < 64 → Tells words (cell_leaves b.cells (first + j)) j
      (Some (driven_in mode b.cells b.update b.core (Some (first + j))))
