-- What changed from one state of a board to the next, and when.
use Rattle.std.specs.Prelude.{◌≡◌, ℕ, List, [], ◌++◌, codes, decimal, map, zip}
use Rattle.pin_nets.specs.Wired.{Net}
use Rattle.board_model.specs.Chain.{ChipState, members}
use Rattle.board_model.specs.Nets.{level}
use Rattle.wave_files.specs.declared.shown.Shown.{Shown}
use Rattle.wave_files.specs.Drives.{KeepsDrives}
use Rattle.wave_files.specs.Values.{by_numbers, byte_change, device_change, first_of_devices, first_of_nets}
use Rattle.wave_files.specs.Values.{latch, level_byte, variables_of_device}

-- ---- lines, devices and nets

abbrev pub further_lines : (before after : Shown) → List ℕ
further_lines a b =
    byte_change 1 a.tms b.tms
    ++ (byte_change 2 a.tdi b.tdi ++ (byte_change 3 a.tdo b.tdo ++ byte_change 4 a.trst b.trst))

abbrev pub line_changes : (before after : Shown) → List ℕ
line_changes a b = byte_change 0 a.tck b.tck ++ further_lines a b

-- a net, by the devices before and after
abbrev pub net_change : List Net → (before after : List ChipState) → ℕ → Net → List ℕ
net_change nets before after n net =
    byte_change n (level_byte (level nets (members before) net)) (level_byte (level nets (members after) net))

-- the devices and the nets
abbrev pub board_changes : List Net → (before after : List ChipState) → List ℕ
board_changes nets before after =
    by_numbers device_change variables_of_device first_of_devices (zip before after)
    ++ by_numbers (net_change nets before after) 1 (first_of_nets before) nets

-- ---- nothing changed of nets, pins and instructions

-- nothing is told of any net
abbrev pub TellsNoNet : List Net → (before after : List ChipState) → Type 0
TellsNoNet nets before after = by_numbers (net_change nets before after) 1 (first_of_nets before) nets ≡ []

-- every device keeps its instruction
abbrev pub KeepsInstructions : (before after : List ChipState) → Type 0
KeepsInstructions before after = map latch before ≡ map latch after

pub record IsQuiet (nets : List Net) (before after : List ChipState) : Type 0 where
  pub no_net : TellsNoNet nets before after
  pub no_drive : KeepsDrives nets before after
  pub no_instruction : KeepsInstructions before after

-- ---- time

-- `#1500000`
abbrev pub stamp : (time : ℕ) → List ℕ
stamp time = codes "#" ++ (decimal time ++ codes "\n")

-- the time, and each value that changed
abbrev pub stamped_changes : (time : ℕ) → (before after : Shown) → List Net → (devices next : List ChipState) → List ℕ
stamped_changes time before after nets devices next =
    stamp time ++ (line_changes before after ++ board_changes nets devices next)
