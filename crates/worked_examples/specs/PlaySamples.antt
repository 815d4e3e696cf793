-- The devices of the worked rows. No meaning looks at a port's mode, which is IN here for all; that a device has a TRST
-- port is told by has_trst alone.
use Rattle.std.specs.Prelude.{Bool, true, false, ℕ, zero, suc, ◌/◌, ◌%◌, ◌==◌, List, [], ◌∷◌, map, replicate, length}
use Rattle.std.specs.Prelude.{Some, None, codes}
use Rattle.jt_tap.specs.declared.Column.TheVariants.{Dr, Ir}
use Rattle.jt_tap.specs.declared.State.{State}
use Rattle.jt_tap.specs.declared.State.TheVariants.{Idle}
use Rattle.bsdl_device.specs.Device.{Pattern, PortBit, Opcode, Access, Device}
use Rattle.bsdl_device.specs.declared.PortMode.TheVariants.{In}
use Rattle.bsdl_device.specs.declared.Function.TheVariants.{Input, Output2, Output3, Control}
use Rattle.bsdl_device.specs.declared.Disabled.TheVariants.{Z}
use Rattle.bsdl_device.specs.declared.Cell.{Cell}
use Rattle.bsdl_device.specs.declared.Place.TheVariants.{AtUser}
use Rattle.board_model.specs.Cells.{Member, powered}
use Rattle.pin_nets.specs.Wired.{Net}
use Rattle.pin_nets.specs.declared.Pin.{Pin}
use Rattle.pin_nets.specs.declared.Pull.{Pull}
use Rattle.pin_nets.specs.declared.Rule.TheVariants.{Counted}
use Rattle.board_model.specs.Whole.{AtRest}
use Rattle.board_model.specs.Resting.{power_up}
use Rattle.scan_vectors.specs.Vector.{PartBits, join}
use Rattle.svf_programs.specs.Steps.{Step, Scan, Numbered}

-- the n lowest binary digits
abbrev pub bits : ℕ → ℕ → List Bool
bits zero v = []
bits (suc n) v = (v % 2 == 1) ∷ bits n (v / 2)

abbrev pub pattern : ℕ → ℕ → Pattern
pattern n v = map (λ b. Some b) (bits n v)

abbrev pub port : (is_tap : Bool) → List ℕ → PortBit
port is_tap name = record { name = name; index = None; mode = In; is_tap = is_tap }

abbrev pub opcode : List ℕ → ℕ → Opcode
opcode name v = record { name = name; patterns = pattern 2 v ∷ [] }

abbrev pub q_cell : Cell
q_cell = record {
  function = Output3;
  port = Some 4;
  control = Some (record { cell = 1; disabling = false; leaves = Z });
}

abbrev pub device_with : List Opcode → Cell → List Access → List ℕ → Bool → Device
device_with rows q accesses users trst = record {
  ports = port true (codes "TDI") ∷ port true (codes "TMS") ∷ port true (codes "TCK") ∷ port true (codes "TDO")
      ∷ port false (codes "Q") ∷ port false (codes "D") ∷ [];
  instruction_length = 2;
  opcodes = rows;
  capture = bits 2 1;
  idcode = Some (bits 32 0x01234567);
  usercode = None;
  cells = q
      ∷ record { function = Control; port = None; control = None }
      ∷ record { function = Input; port = Some 5; control = None }
      ∷ [];
  private_names = [];
  accesses = accesses;
  users = users;
  has_trst = trst;
}

abbrev pub rows_with : List ℕ → List Opcode
rows_with third = opcode (codes "BYPASS") 3 ∷ opcode (codes "EXTEST") 0 ∷ opcode third 1 ∷ opcode (codes "IDCODE") 2
    ∷ []

abbrev pub sample_device : Device
sample_device = device_with (rows_with (codes "SAMPLE")) q_cell [] [] false

abbrev pub with_trst : Device
with_trst = device_with (rows_with (codes "SAMPLE")) q_cell [] [] true

abbrev pub with_highz : Device
with_highz = device_with (rows_with (codes "HIGHZ"))
    (record { function = Output2; port = Some 4; control = None }) [] [] false

abbrev pub with_intest : Device
with_intest = device_with (rows_with (codes "INTEST")) q_cell [] [] false

abbrev pub with_user : Device
with_user = device_with (rows_with (codes "LOAD")) q_cell
    (record { instruction = codes "LOAD"; place = AtUser 0; captures = None } ∷ []) (4 ∷ []) false

abbrev pub with_fixed_user : Device
with_fixed_user = device_with (rows_with (codes "LOAD")) q_cell
    (record { instruction = codes "LOAD"; place = AtUser 0; captures = Some (bits 4 5) } ∷ []) (4 ∷ []) false

abbrev pub with_core : Device → ℕ → Member
with_core d core = powered (codes "U") d (bits (length d.cells) core) [] false

abbrev pub plain : List Device → AtRest
plain ds = power_up [] (map (λ d. with_core d 0) ds)

-- pins Q and D
abbrev pub pin_q : ℕ → Pin
pin_q i = record { device = i; port = 4 }

abbrev pub pin_d : ℕ → Pin
pin_d i = record { device = i; port = 5 }

abbrev pub net : Pull → List Pin → List Net
net pull pins = record { name = codes "N"; pull = pull; rule = Counted; pins = pins } ∷ []

abbrev pub nothing : PartBits
nothing = record { tdi = []; want = []; care = [] }

-- a part with TDI alone, with TDO, with TDO and MASK
abbrev pub tdi : ℕ → ℕ → PartBits
tdi n t = record { tdi = bits n t; want = bits n 0; care = bits n 0 }

abbrev pub tdo : ℕ → ℕ → ℕ → PartBits
tdo n t w = record { tdi = bits n t; want = bits n w; care = replicate n true }

abbrev pub mask : ℕ → ℕ → ℕ → ℕ → PartBits
mask n t w c = record { tdi = bits n t; want = bits n w; care = bits n c }

abbrev pub sir : ℕ → PartBits → Numbered
sir i part = record { number = i; what = Scan Ir (join nothing part nothing) Idle }

abbrev pub sdr : ℕ → PartBits → Numbered
sdr i part = record { number = i; what = Scan Dr (join nothing part nothing) Idle }

abbrev pub sdr_to : ℕ → PartBits → State → Numbered
sdr_to i part end = record { number = i; what = Scan Dr (join nothing part nothing) end }

abbrev pub hdr_sdr : ℕ → PartBits → PartBits → Numbered
hdr_sdr i header part = record { number = i; what = Scan Dr (join header part nothing) Idle }

abbrev pub step : ℕ → Step → Numbered
step i s = record { number = i; what = s }
