-- A board of two devices for the worked reasons. A net joins port Q of the one nearest TDO with port D of the other.
use Rattle.std.specs.Prelude.{Bool, ℕ, List, [], ◌∷◌, codes, flat_map, false}
use Rattle.jt_tap.specs.declared.Column.{Column}
use Rattle.jt_tap.specs.declared.State.TheVariants.{Idle}
use Rattle.scan_vectors.specs.Vector.{PartBits, VectorBit}
use Rattle.bsdl_device.specs.Device.{Opcode}
use Rattle.board_model.specs.Cells.{Member, powered}
use Rattle.board_model.specs.Whole.{AtRest}
use Rattle.board_description.specs.Samples.{between, bits, sample}
use Rattle.board_reasons.specs.Reasons.{scan_reasons, reason_lines}

-- a device with this instruction in its latch
abbrev pub with_latch : ℕ → Member → Member
with_latch v m = record m { registers = record m.registers { latch = bits 3 v } }

abbrev pub device : List ℕ → ℕ → Member
device name latch = with_latch latch (powered name sample (bits 4 0) [] false)

-- two devices, the first nearest TDO
abbrev pub pair : (first second : Member) → AtRest
pair first second = record {
  place = Idle;
  trst = false;
  nets = between ∷ [];
  members = first ∷ second ∷ [];
}

-- U1 and U2 with these instructions in their latches
abbrev pub board : ℕ → ℕ → AtRest
board first second = pair (device (codes "U1") first) (device (codes "U2") second)

-- the same description with these opcodes
abbrev pub with_opcodes : List Opcode → ℕ → Member
with_opcodes rows latch =
    with_latch latch (powered (codes "U1") (record sample { opcodes = rows }) (bits 4 0) [] false)

-- U1 with EXTEST in its latch and 1 in each bit of the update stage, where EXTEST captures that, or its core, which is
-- 0
abbrev pub driving : (extest_update : Bool) → Member
driving extest_update =
    let m = with_latch 0 (powered (codes "U1") sample (bits 4 0) [] extest_update) in
    record m { registers = record m.registers { update = bits 4 15 } }

abbrev pub nothing : PartBits
nothing = record { tdi = []; want = []; care = [] }

-- a part of n bits with TDI, TDO and MASK
abbrev pub part : (n tdi want care : ℕ) → PartBits
part n tdi want care = record { tdi = bits n tdi; want = bits n want; care = bits n care }

-- the lines of the reasons of a scan
abbrev pub told : Column → List VectorBit → AtRest → List ℕ
told column v m = flat_map (reason_lines m.nets m.members) (scan_reasons column v m)
