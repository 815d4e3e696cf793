-- What is drawn besides, where it is asked for: of devices the name of the instruction, and TDO; and of pins what they
-- drive.
use Rattle.std.specs.Prelude.{ℕ, ◌+◌, Bool, false, ◌||◌, List, [], ◌++◌, zip, codes, Option, Some, None}
use Rattle.std.specs.Prelude.{if◌then◌else◌}
use Rattle.std.specs.Cmp.Lexicographic.{pointwise}
use mathlib.Core.Bool.{beq}
use Rattle.chip_instructions.specs.Instruction.{instruction}
use Rattle.pin_nets.specs.Wired.{Net}
use Rattle.board_model.specs.Chain.{ChipState}
use Rattle.wave_files.specs.declared.extras.Extras.{Extras}
use Rattle.wave_files.specs.Drives.{drive_changes, drive_lines}
use Rattle.wave_files.specs.Values.{by_numbers, byte_change, byte_line, extras_of_device, first_of_extras, latch}
use Rattle.wave_files.specs.Values.{undriven, wire, word_line}

abbrev pub no_extras : Extras
no_extras = record { names = false; tdos = false; drives = false }

-- whether anything is drawn of devices besides
abbrev pub draws_of_devices : Extras → Bool
draws_of_devices x = x.names || x.tdos

-- ---- values

-- a name, and what an opcode without a row is called
abbrev pub name_or_dash : Option (List ℕ) → List ℕ
name_or_dash (Some name) = name
name_or_dash None = codes "-"

-- the name of the instruction in a device's latch, by the table of its description
abbrev pub name_told : ChipState → List ℕ
name_told c = name_or_dash (instruction c.member.device (latch c))

abbrev pub name_line : (names : Bool) → ℕ → ChipState → List ℕ
name_line names n c = if names then word_line n (name_told c) else []

-- TDO as the device drives it, from which the next one nearer TDO takes it
abbrev pub tdo_line : (tdos : Bool) → ℕ → ChipState → List ℕ
tdo_line tdos n c = if tdos then byte_line n (wire undriven c.tdo) else []

abbrev pub extra_lines : Extras → ℕ → ChipState → List ℕ
extra_lines x n c = name_line x.names n c ++ tdo_line x.tdos (n + 1) c

-- of all devices
abbrev pub device_extra_lines : Extras → List ChipState → List Net → List ℕ
device_extra_lines x cs nets =
    if draws_of_devices x then by_numbers (extra_lines x) extras_of_device (first_of_extras cs nets) cs else []

-- of devices and pins
abbrev pub all_extra_lines : Extras → List ChipState → List Net → List ℕ
all_extra_lines x cs nets = device_extra_lines x cs nets ++ drive_lines x.drives cs nets

-- ---- changes

-- The name comes wherever the bits of the instruction do.
abbrev pub name_change : (names : Bool) → ℕ → (before after : ChipState) → List ℕ
name_change names n a b = if pointwise beq (latch a) (latch b) then [] else name_line names n b

abbrev pub tdo_change : (tdos : Bool) → ℕ → (before after : ChipState) → List ℕ
tdo_change tdos n a b = if tdos then byte_change n (wire undriven a.tdo) (wire undriven b.tdo) else []

-- a device before and after
abbrev pub extra_change : Extras → ℕ → ChipState × ChipState → List ℕ
extra_change x n c = name_change x.names n c.0 c.1 ++ tdo_change x.tdos (n + 1) c.0 c.1

-- of all devices
abbrev pub device_extra_changes : Extras → List Net → (before after : List ChipState) → List ℕ
device_extra_changes x nets before after =
    if draws_of_devices x
    then by_numbers (extra_change x) extras_of_device (first_of_extras before nets) (zip before after) else []

-- of devices and pins
abbrev pub all_extra_changes : Extras → List Net → (before after : List ChipState) → List ℕ
all_extra_changes x nets before after =
    device_extra_changes x nets before after ++ drive_changes x.drives nets before after
