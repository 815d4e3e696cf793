-- A port bit's drive is that of its driving cell.
use Rattle.std.proofs.Common.{◌≡◌, ℕ, suc, ◌+◌, Bool, true, false, List, [], ◌∷◌, slice_get, Option, Some, None, refl, ap, ◌∙◌, arith, ◌&&◌}
use Rattle.bsdl_device.specs.declared.Cell.{Cell}
use Rattle.chip_registers.specs.Mode.TheVariants.{Extest, Clamp, HighZ, Core}
use Rattle.pin_nets.specs.declared.Drive.{Drive}
use Rattle.pin_nets.specs.declared.Drive.TheVariants.{Nothing}
use Rattle.bsdl_device.specs.Driving.{drives}
use Rattle.boundary.specs.Cells.{DrivenByCell, cell_drive, drive_from, drive_of_driver, driver_from, is_port}

-- the driving cell among those from cell k on stands at its number less k
from : (bits : List Bool) (all : List Cell) (p k : ℕ) (cs : List Cell) → ((j : ℕ) → slice_get all (k + j) ≡ slice_get cs j)
    → drive_of_driver bits (driver_from p k cs) all ≡ drive_from bits p k cs
from bits all p k [] at = refl
from bits all p k (c ∷ cs) at = by (from bits all p (suc k) cs rest) (drives c.function && is_port p c.port) refl
  where
    -- the drive of cell k, if it is there
    there : Option Cell → Drive
    there None = Nothing
    there (Some x) = cell_drive bits k x.control

    here : slice_get all k ≡ Some c
    here = let same : k ≡ k + 0 = omega arith in ap (slice_get all) same ∙ at 0

    rest : (j : ℕ) → slice_get all (suc k + j) ≡ slice_get cs j
    rest j = let same : suc k + j ≡ k + suc j = omega arith in ap (slice_get all) same ∙ at (suc j)

    by : drive_of_driver bits (driver_from p (suc k) cs) all ≡ drive_from bits p (suc k) cs → (b : Bool) → drives c.function && is_port p c.port ≡ b → drive_of_driver bits (driver_from p k (c ∷ cs)) all ≡ drive_from bits p k (c ∷ cs)
    by next true is = rw is (ap there here)
    by next false is = rw is next

same : (cells : List Cell) (j : ℕ) → slice_get cells (0 + j) ≡ slice_get cells j
same cells j = let is : 0 + j ≡ j = omega arith in ap (slice_get cells) is

pub driven_by_cell : DrivenByCell
driven_by_cell HighZ cells update core p = refl
driven_by_cell Extest cells update core p = from update cells p 0 cells (same cells)
driven_by_cell Clamp cells update core p = from update cells p 0 cells (same cells)
driven_by_cell Core cells update core p = from core cells p 0 cells (same cells)
