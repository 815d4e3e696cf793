-- A device of the chain: what its boundary cells capture, what a reset gives them, what its pins drive (IEEE Std
-- 1149.1-2001, clauses 8 and 11, and Annex B.8.14 for the cell table).
use Rattle.std.specs.Prelude.{Bool, true, false, ◌||◌, ℕ, List, [], map, length, replicate, is_some, if◌then◌else◌}
use Rattle.bsdl_device.specs.Device.{Name, Device}
use Rattle.chip_instructions.specs.Instruction.{meaning, reset_latch}
use Rattle.boundary.specs.Registers.{Registers, Surroundings}
use Rattle.pin_nets.specs.declared.Drive.{Drive}
use Rattle.pin_nets.specs.declared.Follow.{Follow}
use Rattle.boundary.specs.Cells.{drive_in, reset_from, takes_update}
use Rattle.boundary.specs.Sight.{capture_by_sight}

-- Its name on the board, its description, its core's constant bits (one a cell), the strings that its core follows,
-- whether EXTEST captures the update stage, and its registers.
pub record Member : Type 0 where
  pub name : Name
  pub device : Device
  pub core : List Bool
  pub follows : List Follow
  pub extest_update : Bool
  pub registers : Registers

-- what a device is told at an edge: what each of its port bits sees, and its core bits in force
pub record Told : Type 0 where
  pub sight : ℕ → Bool
  pub core : List Bool

-- what is told where nothing of it is asked, at an update or a reset
abbrev pub untold : Told
untold = record { sight = λ p. true; core = [] }

-- what the device knows of its boundary, told this
abbrev pub surroundings : Told → Member → Surroundings
surroundings told m = record {
  captures = λ mode. capture_by_sight told.sight (takes_update m.extest_update mode) m.registers.update told.core 0
      m.device.cells;
  at_reset = reset_from m.device.cells 0 m.device.cells m.registers.update;
}

-- what a port bit drives, by the instruction in the latch and the core bits that the device stands here with
abbrev pub drive : Member → ℕ → Drive
drive m p = drive_in (meaning m.device m.registers.latch).mode m.device.cells m.registers.update m.core p

-- At power-up every bit is 0, but for the reset latch and the controlr update cells.
abbrev pub powered : Name → Device → (core : List Bool) → (follows : List Follow) → (extest_update : Bool) → Member
powered name d core follows extest_update = record {
  name = name;
  device = d;
  core = core;
  follows = follows;
  extest_update = extest_update;
  registers = record {
    latch = reset_latch d;
    stage = zeros d.instruction_length;
    bypass = zeros 1;
    identification = zeros (if is_some d.idcode || is_some d.usercode then 32 else 0);
    boundary = zeros (length d.cells);
    update = reset_from d.cells 0 d.cells (zeros (length d.cells));
    users = map (λ n. record { stage = zeros n; latch = zeros n }) d.users;
  };
}
  where
    zeros : ℕ → List Bool
    zeros n = replicate n false
