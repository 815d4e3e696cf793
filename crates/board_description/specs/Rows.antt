-- A board of two devices, described.
use Rattle.std.specs.Prelude.{◌≡◌, ℕ, true, false, List, [], ◌∷◌, ◌++◌, codes, flat_map, Some, None}
use Rattle.bsdl_device.specs.Device.{Name, Opcode, Pattern}
use Rattle.board_description.specs.Covered.{taking}
use Rattle.board_description.specs.Described.{cell_lines, device_line, instruction_lines, opcode_line_by, setting_lines}
use Rattle.board_description.specs.Described.{usercode_line, wiring_lines}
use Rattle.board_description.specs.Samples.{followed, pair, sample}

abbrev pub first : List ℕ
first = codes "U1"

abbrev pub row : Name → Pattern → Opcode
row name pattern = record { name = name; patterns = pattern ∷ [] }

-- the opcodes 11, 0X, 01 and 10, lowest bit first
abbrev pub ones : Pattern
ones = Some true ∷ Some true ∷ []

abbrev pub low : Pattern
low = None ∷ Some false ∷ []

abbrev pub one : Pattern
one = Some true ∷ Some false ∷ []

abbrev pub two : Pattern
two = Some false ∷ Some true ∷ []

-- BYPASS (11), EXTEST (0X), INTEST (01), SAMPLE (11), CLAMP (10), HIGHZ (10)
abbrev pub several : List Opcode
several =
    row (codes "BYPASS") ones ∷ row (codes "EXTEST") low ∷ row (codes "INTEST") one ∷ row (codes "SAMPLE") ones
    ∷ row (codes "CLAMP") two ∷ row (codes "HIGHZ") two ∷ []

pub record DescribedRows : Type 0 where
  pub device_row : device_line (codes "k.bsd") first sample
      ≡ codes "U1 bsdl k.bsd length 3 capture 001 reset IDCODE idcode 0x00000005 trst no\n"
  pub instructions : flat_map (instruction_lines first sample) sample.opcodes
      ≡ codes "U1 instruction BYPASS 111 register bypass 1\nU1 instruction EXTEST 000 register boundary 4\n"
      ++ (codes "U1 instruction SAMPLE 001 register boundary 4\nU1 instruction IDCODE 010 register identification 32\n"
      ++ codes "U1 instruction READ 011 register of READ 4\n")
  pub cells : cell_lines pair.nets 0 first sample 0 sample.cells
      ≡ codes "U1 cell 0 output3 port Q(0) net N control 1 disables 0 leaves Z\nU1 cell 1 control\n"
      ++ codes "U1 cell 2 input port D no net\nU1 cell 3 internal\n"
  pub settings : setting_lines pair.nets 0 followed
      ≡ codes "U1 usercode 0x00000A05\nU1 core 0110 extest update\nU1 follow Q(0) = !D\n"
      ++ codes "U1 port Q(0) in net N\nU1 port D in no net\n"
  pub no_usercode : usercode_line first sample ≡ []
  pub wiring : wiring_lines pair
      ≡ codes "net N pull none U1.Q(0) U2.D\nU1 first instruction bit 0 first boundary bit 0\n"
      ++ codes "U2 first instruction bit 3 first boundary bit 4\nchain 2 devices, 6 instruction bits, 8 boundary bits\n"
  pub itself : taking several low ≡ Some (codes "EXTEST")
  pub by_an_x : taking several one ≡ Some (codes "EXTEST")
  pub by_all_ones : taking several ones ≡ Some (codes "BYPASS")
  pub by_the_same : taking several two ≡ Some (codes "CLAMP")
  pub in_part : taking (row (codes "INTEST") one ∷ row (codes "EXTEST") low ∷ []) low ≡ Some (codes "EXTEST")
  pub covered_line : opcode_line_by first sample (codes "INTEST") one (codes "EXTEST")
      ≡ codes "U1 instruction INTEST 01 register boundary 4 covered by EXTEST\n"
