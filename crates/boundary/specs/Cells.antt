-- The boundary cells of a device on the board: what they capture, what a reset gives them, what the pins drive
-- (IEEE Std 1149.1-2001, clauses 8 and 11, and Annex B.8.14 for the cell table).
use Rattle.std.specs.Prelude.{◌≡◌, ◌<◌, Bool, true, false, ◌&&◌, ℕ, suc, ◌==◌, List, [], ◌∷◌, length}
use Rattle.std.specs.Prelude.{slice_get, slice_index_or, Option, Some, None, if◌then◌else◌}
use Rattle.jt_bits.specs.Words.{bit_of}
use Rattle.bsdl_device.specs.Driving.{drives}
use Rattle.bsdl_device.specs.declared.Cell.{Cell}
use Rattle.bsdl_device.specs.declared.Control3.{Control3}
use Rattle.bsdl_device.specs.declared.Disabled.{Disabled}
use Rattle.bsdl_device.specs.declared.Disabled.TheVariants.{Z, Keeper, Weak0, Weak1, Pull0, Pull1}
use Rattle.bsdl_device.specs.declared.Function.{Function}
use Rattle.bsdl_device.specs.declared.Function.TheVariants.{Input, Clock, ObserveOnly, Bidir}
use Rattle.bsdl_device.specs.declared.Function.TheVariants.{ControlR, Internal}
use Rattle.chip_registers.specs.Mode.{Mode}
use Rattle.chip_registers.specs.Mode.TheVariants.{Extest, Clamp, HighZ}
use Rattle.chip_registers.specs.Registers.{zeros}
use Rattle.pin_nets.specs.declared.Drive.{Drive}
use Rattle.pin_nets.specs.declared.Drive.TheVariants.{Strong, Weak, Nothing}

-- a boundary register on the board; `seen` is what each cell was last told that its port sees
pub record BoundaryValue : Type 0 where
  pub cells : List Cell
  pub core : List Bool
  pub extest_update : Bool
  pub seen : List Bool
  pub stage : List Bool
  pub update : List Bool

-- whether a capture takes the update stage: EXTEST on a device whose board file says so
abbrev pub takes_update : Bool → Mode → Bool
takes_update extest_update Extest = extest_update
takes_update extest_update _ = false

-- What one cell captures: an input, clock, observe-only or bidirectional cell what its port sees, an internal cell its
-- core bit, an output or control its core bit or, as above, its update bit.
abbrev pub cell_captures : (seen from_update update core : Bool) → Option ℕ → Function → Bool
cell_captures s from_update u c (Some p) Input = s
cell_captures s from_update u c (Some p) Clock = s
cell_captures s from_update u c (Some p) ObserveOnly = s
cell_captures s from_update u c (Some p) Bidir = s
cell_captures s from_update u c port Internal = c
cell_captures s from_update u c port _ = if from_update then u else c

-- the whole boundary's capture
abbrev pub capture_from : List Cell → (seen : List Bool) → (from_update : Bool) → (update core : List Bool) → List Bool
capture_from (cell ∷ cells) (s ∷ seen) from_update (u ∷ update) (c ∷ core) =
    cell_captures s from_update u c cell.port cell.function ∷ capture_from cells seen from_update update core
capture_from _ _ _ _ _ = []

abbrev pub captured_bits : BoundaryValue → Mode → List Bool
captured_bits b mode = capture_from b.cells b.seen (takes_update b.extest_update mode) b.update b.core

-- The disabling value of control cell k: that of the lowest cell that names it, 0 if none does.
abbrev pub disabling_of : ℕ → Option Control3 → Bool → Bool
disabling_of k (Some t) otherwise = if t.cell == k then t.disabling else otherwise
disabling_of k None otherwise = otherwise

abbrev pub disabling_value : ℕ → List Cell → Bool
disabling_value k [] = false
disabling_value k (c ∷ cs) = disabling_of k c.control (disabling_value k cs)

-- bit k is the disabling value of control cell k
pub record AreDisabling (cells : List Cell) (bits : List Bool) : Type 0 where
  pub long : length bits ≡ length cells
  pub each : (k : ℕ) → k < length cells → bit_of bits k ≡ disabling_value k cells

-- the disabling value that a cell names is entered at the control cell that it names, if that is one of these
pub record EntersDisabling (old new : List Bool) (control : Option Control3) : Type 0 where
  pub long : length new ≡ length old
  pub each : (k : ℕ) → k < length old → bit_of new k ≡ disabling_of k control (bit_of old k)

abbrev pub reset_cell : List Cell → ℕ → Function → Bool → Bool
reset_cell all k ControlR u = disabling_value k all
reset_cell all k _ u = u

-- the update stage with each controlr cell at its disabling value, from cell k on
abbrev pub reset_from : List Cell → ℕ → List Cell → List Bool → List Bool
reset_from all k (c ∷ cs) (u ∷ us) = reset_cell all k c.function u ∷ reset_from all (suc k) cs us
reset_from all k _ us = us

abbrev pub at_reset : BoundaryValue → List Bool
at_reset b = reset_from b.cells 0 b.cells b.update

-- the bits that drive: the update stage under EXTEST and CLAMP, else the core's
abbrev pub in_force : Mode → (update core : List Bool) → List Bool
in_force Extest update core = update
in_force Clamp update core = update
in_force _ update core = core

-- what a disabled driver leaves on its pin
abbrev pub left_by : Disabled → Drive
left_by Z = Nothing
left_by Keeper = Nothing
left_by Weak0 = Weak false
left_by Pull0 = Weak false
left_by Weak1 = Weak true
left_by Pull1 = Weak true

abbrev pub same_bit : Bool → Bool → Bool
same_bit true b = b
same_bit false true = false
same_bit false false = true

-- What driving cell k drives under the bits in force: what its control leaves while disabled, else its own bit.
abbrev pub cell_drive : List Bool → ℕ → Option Control3 → Drive
cell_drive bits k None = Strong (bit_of bits k)
cell_drive bits k (Some t) =
    if same_bit (bit_of bits t.cell) t.disabling then left_by t.leaves else Strong (bit_of bits k)

abbrev pub is_port : ℕ → Option ℕ → Bool
is_port p (Some q) = p == q
is_port p None = false

-- the drive of a port bit: that of the cell that drives it, Nothing if none does
abbrev pub drive_from : List Bool → ℕ → ℕ → List Cell → Drive
drive_from bits p k [] = Nothing
drive_from bits p k (c ∷ cs) =
    if drives c.function && is_port p c.port then cell_drive bits k c.control else drive_from bits p (suc k) cs

-- Under HIGHZ every pin drives nothing.
abbrev pub drive_in : Mode → List Cell → (update core : List Bool) → ℕ → Drive
drive_in HighZ cells update core p = Nothing
drive_in mode cells update core p = drive_from (in_force mode update core) p 0 cells

-- the first cell, from cell k on, that drives a port bit
abbrev pub driver_from : ℕ → ℕ → List Cell → Option ℕ
driver_from p k [] = None
driver_from p k (c ∷ cs) = if drives c.function && is_port p c.port then Some k else driver_from p (suc k) cs

-- for each of the first port bits the cell that drives it
pub record AreDrivers (cells : List Cell) (table : List (Option ℕ)) : Type 0 where
  pub each : (p : ℕ) → p < length table → slice_index_or table p None ≡ driver_from p 0 cells

-- cell k is entered at its port, if it drives one of these
pub record EntersDriver (old new : List (Option ℕ)) (k : ℕ) (c : Cell) : Type 0 where
  pub long : length new ≡ length old
  pub each : (p : ℕ) → p < length old
      → slice_index_or new p None
      ≡ (if drives c.function && is_port p c.port then Some k else slice_index_or old p None)

-- what a port bit drives whose driving cell is this one
abbrev pub drive_of_driver : List Bool → Option ℕ → List Cell → Drive
drive_of_driver bits None cells = Nothing
drive_of_driver bits (Some k) cells = elim (slice_get cells k) [ None ↦ Nothing | Some c ↦ cell_drive bits k c.control ]

abbrev pub driven_in : Mode → List Cell → (update core : List Bool) → Option ℕ → Drive
driven_in HighZ cells update core driver = Nothing
driven_in mode cells update core driver = drive_of_driver (in_force mode update core) driver cells

-- A port bit's drive is that of its driving cell.
abbrev pub DrivenByCell : Type 0
DrivenByCell = (mode : Mode) (cells : List Cell) (update core : List Bool) (p : ℕ)
    → driven_in mode cells update core (driver_from p 0 cells) ≡ drive_in mode cells update core p

-- the four lists have a bit for each cell
pub record IsWhole (b : BoundaryValue) : Type 0 where
  pub core : length b.core ≡ length b.cells
  pub seen : length b.seen ≡ length b.cells
  pub stage : length b.stage ≡ length b.cells
  pub update : length b.update ≡ length b.cells

-- At power-up every bit is 0, but for the controlr update cells.
abbrev pub powered : List Cell → (core : List Bool) → (extest_update : Bool) → BoundaryValue
powered cells core extest_update = record {
  cells = cells;
  core = core;
  extest_update = extest_update;
  seen = zeros (length cells);
  stage = zeros (length cells);
  update = reset_from cells 0 cells (zeros (length cells));
}
