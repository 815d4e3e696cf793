-- What the instruction in a device's latch names, selects and drives (IEEE Std 1149.1-2001, clauses 7 and 8).
use Rattle.std.specs.Prelude.{Bool, true, List, [], ◌∷◌, ◌++◌, map, replicate, Option, Some, None}
use Rattle.std.specs.Prelude.{codes, bytes_eq, if◌then◌else◌}
use Rattle.std.specs.List.{list_any}
use Rattle.bsdl_device.specs.Device.{Name, Pattern, Access, Device}
use Rattle.bsdl_device.specs.Opcodes.{idcode_opcode, named_instruction, x_as_0}
use Rattle.bsdl_device.specs.declared.Place.{Place}
use Rattle.bsdl_device.specs.declared.Place.TheVariants.{AtBypass, AtBoundary, AtDeviceId, AtUser}
use Rattle.chip_instructions.specs.declared.Mode.{Mode}
use Rattle.chip_instructions.specs.declared.Mode.TheVariants.{Extest, Clamp, HighZ, Core}
use Rattle.chip_instructions.specs.declared.Selected.{Selected}
use Rattle.chip_instructions.specs.declared.Selected.TheVariants.{Bypass, Identification, Boundary, User}

-- What an instruction does; `fixed` is what its identification or user register captures, if that is fixed.
pub record Meaning : Type 0 where
  pub mode : Mode
  pub selected : Selected
  pub fixed : Option (List Bool)

-- The instruction in a latch.
abbrev pub instruction : Device → List Bool → Option Name
instruction d latch = named_instruction d.opcodes latch

abbrev pub selects : Mode → Selected → Meaning
selects mode selected = record { mode = mode; selected = selected; fixed = None }

-- An instruction without a meaning of its own here selects bypass and leaves the pins to the core.
abbrev pub as_bypass : Meaning
as_bypass = selects Core Bypass

-- the identification register with this code; bypass where the device lacks it
abbrev pub reads_code : Option (List Bool) → Meaning
reads_code (Some code) = record { mode = Core; selected = Identification; fixed = Some code }
reads_code None = as_bypass

-- The standard's instructions. INTEST and RUNBIST are left out here, and so stand for BYPASS.
abbrev pub standard : Device → List (Name × Meaning)
standard d =
    (codes "BYPASS", as_bypass)
    ∷ (codes "EXTEST", selects Extest Boundary)
    ∷ (codes "SAMPLE", selects Core Boundary)
    ∷ (codes "PRELOAD", selects Core Boundary)
    ∷ (codes "CLAMP", selects Clamp Bypass)
    ∷ (codes "HIGHZ", selects HighZ Bypass)
    ∷ (codes "IDCODE", reads_code d.idcode)
    ∷ (codes "USERCODE", reads_code d.usercode)
    ∷ (codes "INTEST", as_bypass)
    ∷ (codes "RUNBIST", as_bypass)
    ∷ []

abbrev pub access_meaning : Device → Access → Name × Meaning
access_meaning d a = (a.instruction, at a.place)
  where
    at : Place → Meaning
    at AtBypass = as_bypass
    at AtBoundary = selects Core Boundary
    at AtDeviceId = reads_code d.idcode
    at (AtUser k) = record { mode = Core; selected = User k; fixed = a.captures }

abbrev pub look_up : Name → List (Name × Meaning) → Meaning
look_up name [] = as_bypass
look_up name (row ∷ rows) = if bytes_eq name row.0 then row.1 else look_up name rows

-- A private instruction means BYPASS, then the standard's have their meaning, then the device's own.
abbrev pub meaning_of : Device → Option Name → Meaning
meaning_of d None = as_bypass
meaning_of d (Some name) =
    if list_any (bytes_eq name) d.private_names
    then as_bypass
    else look_up name (standard d ++ map (access_meaning d) d.accesses)

-- what the instruction in a latch does
abbrev pub meaning : Device → List Bool → Meaning
meaning d latch = meaning_of d (instruction d latch)

-- The latch that a reset gives: IDCODE where the device has its code and its opcode, X as 0; else all ones.
abbrev pub reset_latch : Device → List Bool
reset_latch d = given d.idcode (idcode_opcode d.opcodes)
  where
    given : Option (List Bool) → Option Pattern → List Bool
    given (Some code) (Some opcode) = x_as_0 opcode
    given _ _ = replicate d.instruction_length true
