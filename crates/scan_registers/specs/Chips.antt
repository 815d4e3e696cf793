-- A chip round any boundary register, as its parts and as one device.
use Rattle.std.specs.Prelude.{◌≡◌, Bool, false, List, [], ◌∷◌, length, map, Option, None, if◌then◌else◌}
use Rattle.jt_tap.specs.declared.Column.{Column}
use Rattle.jt_tap.specs.declared.State.{State}
use Rattle.jt_tap.specs.declared.State.TheVariants.{Reset}
use Rattle.chip_instructions.specs.Device.{Device}
use Rattle.chip_instructions.specs.declared.Mode.{Mode}
use Rattle.chip_registers.specs.declared.users.UserRegister.{UserRegister}
use Rattle.chip_registers.specs.Data.{Lengths}
use Rattle.chip_registers.specs.Registers.{Registers, Surroundings, put, zeros, new_user}
use Rattle.scan_registers.specs.Edges.{OneChip}
use Rattle.chip_instructions.specs.Fitting.{has_code}
use Rattle.chip_instructions.specs.Instruction.{reset_latch}

pub record ChipValue (B : Type 0) : Type 0 where
  pub device : Device
  pub state : State
  pub tdo : Option Bool
  pub trst : Bool
  pub latch : List Bool
  pub stage : List Bool
  pub bypass : Bool
  pub identification : List Bool
  pub boundary : B
  pub users : List UserRegister

-- the same with the two lists of its boundary register, given as functions of it
abbrev pub one_chip : {B : Type 0} → (stage update : B → List Bool) → ChipValue B → OneChip
one_chip stage update c = record {
  device = c.device;
  registers = record {
    latch = c.latch;
    stage = c.stage;
    bypass = c.bypass ∷ [];
    identification = c.identification;
    boundary = stage c.boundary;
    update = update c.boundary;
    users = c.users;
  };
  state = c.state;
  tdo = c.tdo;
  trst = c.trst;
}

-- what its boundary register knows
abbrev pub surroundings_of : {B : Type 0} → (captured : B → Mode → List Bool) → (at_reset : B → List Bool) → ChipValue B
    → Surroundings
surroundings_of captured at_reset c = record { captures = captured c.boundary; at_reset = at_reset c.boundary }

abbrev pub registers : {B : Type 0} → (stage update : B → List Bool) → ChipValue B → Registers
registers stage update c = (one_chip stage update c).registers

-- a device with other registers
abbrev pub with_registers : Registers → OneChip → OneChip
with_registers r c = record c { registers = r }

-- At power-up the device is in RESET with its reset instruction; every other bit of its own registers is 0.
abbrev pub powered : {B : Type 0} → Device → B → ChipValue B
powered d boundary = record {
  device = d;
  state = Reset;
  tdo = None;
  trst = false;
  latch = reset_latch d;
  stage = zeros d.instruction_length;
  bypass = false;
  identification = zeros (if has_code d then 32 else 0);
  boundary = boundary;
  users = map new_user d.users;
}

-- the second chip is the first with these bits in the column's register
pub record IsPut {B : Type 0} (stage update : B → List Bool) (with_parts : B → List Bool → List Bool → B)
    (column : Column) (bits : List Bool) (old new : ChipValue B) : Type 0 where
  pub chip : one_chip stage update new
      ≡ with_registers (put old.device column bits (registers stage update old)) (one_chip stage update old)
  pub boundary : new.boundary ≡ with_parts old.boundary (stage new.boundary) (update new.boundary)

-- how many bits the data registers of a device have
abbrev pub lengths_in : Device → Lengths
lengths_in d = record {
  identification = if has_code d then 32 else 0;
  boundary = length d.cells;
  users = map (λ n. (n, n)) d.users;
}
