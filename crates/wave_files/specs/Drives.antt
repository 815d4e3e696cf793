-- What each pin of a named net drives, where that is asked for: on a net that is contended, who drives against whom.
use Rattle.std.specs.Prelude.{◌≡◌, ℕ, Bool, true, false, List, [], if◌then◌else◌}
use Rattle.pin_nets.specs.declared.Drive.{Drive}
use Rattle.pin_nets.specs.declared.Drive.TheVariants.{Strong, Weak, Nothing}
use Rattle.pin_nets.specs.declared.Pin.{Pin}
use Rattle.pin_nets.specs.Wired.{Net}
use Rattle.board_plan.specs.Planned.{all_pins}
use Rattle.board_model.specs.Cells.{Member}
use Rattle.board_model.specs.Chain.{ChipState, members}
use Rattle.board_model.specs.Nets.{in_force, pin_drive}
use Rattle.output_words.specs.Digits.{digit}
use Rattle.wave_files.specs.Values.{by_numbers, byte_change, byte_line, first_of_drives, undriven}

-- ---- letters

-- A weak 0 is `l`, and a weak 1 `h`: GTKWave's letters, beside the four of the standard.
abbrev pub weak_byte : Bool → ℕ
weak_byte false = 108
weak_byte true = 104

abbrev pub drive_byte : Drive → ℕ
drive_byte (Strong b) = digit b
drive_byte (Weak b) = weak_byte b
drive_byte Nothing = undriven

-- ---- values

-- the devices with their core bits in force: by these their pins drive
abbrev pub driving : List Net → List ChipState → List Member
driving nets cs = in_force nets (members cs)

abbrev pub drive_line : List Member → ℕ → Pin → List ℕ
drive_line ms n pin = byte_line n (drive_byte (pin_drive ms pin))

-- of the pins of all nets
abbrev pub drive_lines : (drives : Bool) → List ChipState → List Net → List ℕ
drive_lines drives cs nets =
    if drives then by_numbers (drive_line (driving nets cs)) 1 (first_of_drives cs nets) (all_pins nets) else []

-- ---- changes

-- a pin of these devices before and after
abbrev pub drive_change : (before after : List Member) → ℕ → Pin → List ℕ
drive_change before after n pin = byte_change n (drive_byte (pin_drive before pin)) (drive_byte (pin_drive after pin))

-- of the pins of all nets
abbrev pub drive_changes : (drives : Bool) → List Net → (before after : List ChipState) → List ℕ
drive_changes drives nets before after =
    if drives
    then by_numbers (drive_change (driving nets before) (driving nets after)) 1 (first_of_drives before nets)
    (all_pins nets) else []

-- every pin drives what it did
abbrev pub KeepsDrives : List Net → (before after : List ChipState) → Type 0
KeepsDrives nets before after = (pin : Pin) → pin_drive (driving nets before) pin ≡ pin_drive (driving nets after) pin
