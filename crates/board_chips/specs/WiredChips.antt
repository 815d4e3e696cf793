-- A device at its place in the chain, as the code keeps it: its chip round a boundary register, and the net of each
-- cell.
use Rattle.std.specs.Prelude.{◌≡◌, ◌<◌, ℕ, Bool, true, false, List, slice_get, Option, Some}
use Rattle.std.specs.List.{AllByRecursion}
use Rattle.jt_tap.specs.declared.Column.{Column}
use Rattle.jt_tap.specs.declared.Column.TheVariants.{Dr}
use Rattle.jt_tap.specs.declared.Work.{Work}
use Rattle.jt_tap.specs.declared.Work.TheVariants.{Resets, Captures, Updates}
use Rattle.jt_tap.specs.Controller.{work}
use Rattle.chip_instructions.specs.declared.Mode.{Mode}
use Rattle.chip_instructions.specs.declared.Mode.TheVariants.{Extest, Clamp}
use Rattle.chip_instructions.specs.declared.Selected.{Selected}
use Rattle.chip_instructions.specs.declared.Selected.TheVariants.{Boundary}
use Rattle.scan_registers.specs.Chips.{ChipValue, registers}
use Rattle.chip_instructions.specs.Instruction.{meaning}
use Rattle.boundary.specs.Cells.{BoundaryValue, IsWhole}
use Rattle.pin_nets.specs.declared.Follow.{Follow}
use Rattle.boundary.specs.Masks.{SeesSighted}
use Rattle.board_model.specs.Cells.{Member, Told, drive}
use Rattle.board_model.specs.Chain.{ChipState}

pub record WiredChipValue : Type 0 where
  pub name : List ℕ
  pub chip : ChipValue BoundaryValue
  -- its core's constant bits, one a cell
  pub constants : List Bool
  -- the strings that its core follows
  pub follows : List Follow
  -- of each cell the net that its port is on, if it has a port and that is on a net
  pub nets : List (Option ℕ)

-- the device of the meaning
abbrev pub member_of : WiredChipValue → Member
member_of s = record {
  name = s.name;
  device = s.chip.device;
  core = s.constants;
  follows = s.follows;
  extest_update = s.chip.boundary.extest_update;
  registers = registers (λ b. b.stage) (λ b. b.update) s.chip;
}

-- the same with the core bits that its boundary holds: by these its pins drive
abbrev pub held_of : WiredChipValue → Member
held_of s = record (member_of s) { core = s.chip.boundary.core }

-- what a device that sees this is told at an edge: of core bits those that its boundary holds
abbrev pub told_by : (ℕ → Bool) → WiredChipValue → Told
told_by sees s = record { sight = sees; core = s.chip.boundary.core }

abbrev pub chip_state : WiredChipValue → ChipState
chip_state s = record { member = member_of s; state = s.chip.state; tdo = s.chip.tdo }

-- What a boundary's cells were told of their ports is no part of the meaning.
abbrev pub with_seen : List Bool → WiredChipValue → WiredChipValue
with_seen seen s = record s { chip = record s.chip { boundary = record s.chip.boundary { seen = seen } } }

-- each net is one of so many
abbrev pub AreBelow : ℕ → List (Option ℕ) → Type 0
AreBelow n nets = (k net : ℕ) → slice_get nets k ≡ Some (Some net) → net < n

-- What no edge changes: the name, the description, the core's constants and strings and the core bits that the boundary
-- holds, and what the device is wired to.
pub record IsKept (old new : WiredChipValue) : Type 0 where
  pub name : new.name ≡ old.name
  pub device : new.chip.device ≡ old.chip.device
  pub constants : new.constants ≡ old.constants
  pub follows : new.follows ≡ old.follows
  pub core : new.chip.boundary.core ≡ old.chip.boundary.core
  pub extest_update : new.chip.boundary.extest_update ≡ old.chip.boundary.extest_update
  pub nets : new.nets ≡ old.nets

-- every chip was told this level of TRST last
abbrev pub AllTold : Bool → List WiredChipValue → Type 0
AllTold trst chips = AllByRecursion (λ s. s.chip.trst ≡ trst) chips

-- whether the rising edge that comes captures the boundary register
abbrev pub captures_boundary : Work → Selected → Bool
captures_boundary (Captures Dr) Boundary = true
captures_boundary _ _ = false

-- if it does, each cell that captures what its port sees was told that
abbrev pub IsSighted : (ℕ → Bool) → WiredChipValue → Type 0
IsSighted sees s = captures_boundary (work s.chip.state) (meaning s.chip.device s.chip.latch).selected ≡ true
    → IsWhole s.chip.boundary × SeesSighted sees s.chip.device.cells s.chip.boundary.seen

-- whether an update of the column, by a device in this mode with this register selected, may change the bits that drive
abbrev pub updates_driving : Column → Selected → Mode → Bool
updates_driving Dr Boundary Extest = true
updates_driving Dr Boundary Clamp = true
updates_driving _ _ _ = false

-- whether the falling edge of this work may change them: it updates them, or resets
abbrev pub falls_driving : Work → Selected → Mode → Bool
falls_driving (Updates column) selected mode = updates_driving column selected mode
falls_driving Resets selected mode = true
falls_driving _ selected mode = false

-- each port bit drives what it drove, whatever the core bits are
abbrev pub DrivesStill : Member → Member → Type 0
DrivesStill m after =
    (core : List Bool) (p : ℕ) → drive (record after { core = core }) p ≡ drive (record m { core = core }) p
