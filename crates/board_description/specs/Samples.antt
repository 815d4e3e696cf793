-- A device for worked lines, and a board of two of it. A net joins port Q of the one nearest TDO with port D of the
-- other.
use Rattle.std.specs.Prelude.{Bool, false, true, ℕ, zero, suc, ◌/◌, ◌%◌, ◌==◌, List, [], ◌∷◌, map, codes, Option}
use Rattle.std.specs.Prelude.{Some, None}
use Rattle.bsdl_device.specs.Device.{Device, Opcode, PortBit}
use Rattle.bsdl_device.specs.declared.PortMode.TheVariants.{In}
use Rattle.bsdl_device.specs.declared.Function.TheVariants.{Input, Output3, Control, Internal}
use Rattle.bsdl_device.specs.declared.Disabled.TheVariants.{Z}
use Rattle.bsdl_device.specs.declared.Place.TheVariants.{AtUser}
use Rattle.pin_nets.specs.Wired.{Net}
use Rattle.pin_nets.specs.declared.Pull.TheVariants.{Free}
use Rattle.pin_nets.specs.declared.Rule.TheVariants.{Counted}
use Rattle.board_plan.specs.Planned.{Member, Wiring}

-- the n lowest binary digits
abbrev pub bits : ℕ → ℕ → List Bool
bits zero v = []
bits (suc n) v = (v % 2 == 1) ∷ bits n (v / 2)

abbrev pub port : List ℕ → Option ℕ → PortBit
port name index = record { name = name; index = index; mode = In; is_tap = false }

abbrev pub opcode : List ℕ → ℕ → Opcode
opcode name v = record { name = name; patterns = map (λ b. Some b) (bits 3 v) ∷ [] }

-- Instruction register of 3 bits, an identification of 32, a user register of 4, and four cells: Q(0) driven, its
-- control, D seen, and one without a port.
abbrev pub sample : Device
sample = record {
  ports = port (codes "Q") (Some 0) ∷ port (codes "D") None ∷ [];
  instruction_length = 3;
  opcodes =
      opcode (codes "BYPASS") 7 ∷ opcode (codes "EXTEST") 0 ∷ opcode (codes "SAMPLE") 1
      ∷ opcode (codes "IDCODE") 2 ∷ opcode (codes "READ") 3 ∷ [];
  capture = bits 3 1;
  idcode = Some (bits 32 5);
  usercode = None;
  cells = record {
    function = Output3;
    port = Some 0;
    control = Some (record { cell = 1; disabling = false; leaves = Z });
  } ∷ record { function = Control; port = None; control = None }
      ∷ record { function = Input; port = Some 1; control = None }
      ∷ record { function = Internal; port = None; control = None } ∷ [];
  private_names = [];
  accesses = record { instruction = codes "READ"; place = AtUser 0; captures = None } ∷ [];
  users = 4 ∷ [];
  has_trst = false;
}

-- the net between two of them
abbrev pub between : Net
between = record {
  name = codes "N";
  pull = Free;
  rule = Counted;
  pins = record { device = 0; port = 0 } ∷ record { device = 1; port = 1 } ∷ [];
}

abbrev pub planned : List ℕ → Member
planned name = record { name = name; device = sample; core = bits 4 0; follows = []; extest_update = false }

abbrev pub pair : Wiring
pair = record { members = planned (codes "U1") ∷ planned (codes "U2") ∷ []; nets = between ∷ [] }

-- the first of them with a user code, some bits of its core at 1, a string from D to Q(0), and EXTEST that captures the
-- update stage
abbrev pub followed : Member
followed = record {
  name = codes "U1";
  device = record sample { usercode = Some (bits 32 2565) };
  core = bits 4 6;
  follows = record { cell = 0; source = 1; inverted = true } ∷ [];
  extest_update = true;
}
