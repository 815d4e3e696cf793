-- What stands before the first time: the variables in their scopes, and what each shows at the start (IEEE Std
-- 1364-2001, clause 18). Names of devices and nets are letters, digits and `_`, as board files have them.
use Rattle.std.specs.Prelude.{ℕ, ◌+◌, Bool, false, List, [], ◌∷◌, ◌++◌, length, codes, decimal, if◌then◌else◌}
use Rattle.std.specs.Prelude.{option_map, slice_get, unwrap_or}
use Rattle.pin_nets.specs.declared.Pin.{Pin}
use Rattle.pin_nets.specs.Wired.{Net}
use Rattle.board_description.specs.Words.{port_of}
use Rattle.board_model.specs.Chain.{ChipState, members}
use Rattle.board_model.specs.Nets.{level}
use Rattle.wave_files.specs.Codes.{code}
use Rattle.wave_files.specs.declared.extras.Extras.{Extras}
use Rattle.wave_files.specs.declared.shown.Shown.{Shown}
use Rattle.output_words.specs.Digits.{digit}
use Rattle.wave_files.specs.Extras.{all_extra_lines, draws_of_devices}
use Rattle.wave_files.specs.Values.{bits_line, by_numbers, byte_line, device_lines, extras_of_device, first_of_devices}
use Rattle.wave_files.specs.Values.{first_of_drives, first_of_extras, first_of_nets, first_of_notes, latch, level_byte}
use Rattle.wave_files.specs.Values.{unknown, variables_of_device, word_line}

-- ---- the variables

-- `$var wire 1 ! TCK $end`, its kind being `wire 1`
abbrev pub variable : (kind : List ℕ) → ℕ → (name : List ℕ) → List ℕ
variable kind n name = codes "$var " ++ (kind ++ (codes " " ++ (code n ++ (codes " " ++ (name ++ codes " $end\n")))))

abbrev pub scope : (name : List ℕ) → List ℕ
scope name = codes "$scope module " ++ (name ++ codes " $end\n")

abbrev pub line_variables : List ℕ
line_variables =
    codes "$scope module tap $end\n$var wire 1 ! TCK $end\n$var wire 1 \" TMS $end\n"
    ++ (codes "$var wire 1 # TDI $end\n$var wire 1 $ TDO $end\n$var wire 1 % TRST $end\n"
    ++ codes "$var integer 32 & statement $end\n")

-- Of the bits that scans want: what is wanted beside TDO, whether a bit fails, and the place and the part of the bit
-- that failed last.
abbrev pub note_variables : ℕ → List ℕ
note_variables n =
    variable (codes "wire 1") n (codes "wanted")
    ++ (variable (codes "wire 1") (n + 1) (codes "fail")
    ++ (variable (codes "integer 32") (n + 2) (codes "bit") ++ variable (codes "string 1") (n + 3) (codes "part")))

-- where they are drawn
abbrev pub noted_variables : (noted : Bool) → ℕ → List ℕ
noted_variables noted n = if noted then note_variables n else []

abbrev pub tap_variables : (noted : Bool) → ℕ → List ℕ
tap_variables noted n = line_variables ++ (noted_variables noted n ++ codes "$upscope $end\n")

-- an instruction has as many bits as its device gives it
abbrev pub bits_kind : (bits : ℕ) → List ℕ
bits_kind bits = codes "$var reg " ++ (decimal bits ++ codes " ")

-- Viewers list variables by their last names, so each of a device begins with the device's: `' U1_state $end`.
abbrev pub named : ℕ → (device leaf : List ℕ) → List ℕ
named n device leaf = code n ++ (codes " " ++ (device ++ (leaf ++ codes " $end\n")))

-- the variables of a device of this name, with so many bits of instruction
abbrev pub variables_named : ℕ → (device : List ℕ) → (bits : ℕ) → List ℕ
variables_named n device bits =
    scope device
    ++ (codes "$var reg 4 " ++ (named n device (codes "_state")
    ++ (codes "$var string 1 " ++ (named (n + 1) device (codes "_word")
    ++ (bits_kind bits ++ (named (n + 2) device (codes "_instruction") ++ codes "$upscope $end\n"))))))

-- a device: its state, the state's word, and its instruction
abbrev pub device_variables : ℕ → ChipState → List ℕ
device_variables n c = variables_named n c.member.name (length (latch c))

abbrev pub net_variable : ℕ → Net → List ℕ
net_variable n net = variable (codes "wire 1") n net.name

-- What is drawn of a device besides stands in its scope, which is opened once more.
abbrev pub name_variable : (names : Bool) → ℕ → (device : List ℕ) → List ℕ
name_variable names n device =
    if names then codes "$var string 1 " ++ named n device (codes "_instruction_name") else []

abbrev pub tdo_variable : (tdos : Bool) → ℕ → (device : List ℕ) → List ℕ
tdo_variable tdos n device = if tdos then codes "$var wire 1 " ++ named n device (codes "_tdo") else []

abbrev pub extras_named : Extras → ℕ → (device : List ℕ) → List ℕ
extras_named x n device =
    scope device
    ++ (name_variable x.names n device ++ (tdo_variable x.tdos (n + 1) device ++ codes "$upscope $end\n"))

abbrev pub extra_variables : Extras → ℕ → ChipState → List ℕ
extra_variables x n c = extras_named x n c.member.name

-- of all devices
abbrev pub device_extra_variables : Extras → List ChipState → List Net → List ℕ
device_extra_variables x cs nets =
    if draws_of_devices x then by_numbers (extra_variables x) extras_of_device (first_of_extras cs nets) cs else []

-- A name, parted from what follows by a letter that no name has: `U1-`.
abbrev pub fronted : (name : List ℕ) → List ℕ
fronted name = name ++ codes "-"

-- a pin by its device, and its port as board files write it: `U1-D(2)`
abbrev pub pin_name : List ChipState → Pin → List ℕ
pin_name cs pin =
    unwrap_or
    (option_map (λ c. fronted c.member.name ++ port_of c.member.device pin.port) (slice_get cs pin.device)) []

-- what a pin of a net drives, by a name that begins with the net's: `BUS2-U1-D(2)`
abbrev pub drive_variable : List ChipState → (net : List ℕ) → ℕ → Pin → List ℕ
drive_variable cs net n pin = variable (codes "wire 1") n (fronted net ++ pin_name cs pin)

-- The pins of a net stand in a scope of its name ..
abbrev pub net_scope : List ChipState → ℕ → Net → List ℕ
net_scope cs n net =
    scope net.name ++ (by_numbers (drive_variable cs net.name) 1 n net.pins ++ codes "$upscope $end\n")

-- .. and have their numbers net after net.
abbrev pub net_scopes : List ChipState → ℕ → List Net → List ℕ
net_scopes cs n [] = []
net_scopes cs n (net ∷ nets) = net_scope cs n net ++ net_scopes cs (n + length net.pins) nets

abbrev pub drive_variables : (drives : Bool) → List ChipState → List Net → List ℕ
drive_variables drives cs nets = if drives then net_scopes cs (first_of_drives cs nets) nets else []

-- of devices and pins
abbrev pub all_extra_variables : Extras → List ChipState → List Net → List ℕ
all_extra_variables x cs nets = device_extra_variables x cs nets ++ drive_variables x.drives cs nets

abbrev pub variables : (noted : Bool) → Extras → List ChipState → List Net → List ℕ
variables noted x cs nets =
    codes "$timescale 1 ps $end\n$scope module board $end\n"
    ++ (tap_variables noted (first_of_notes cs nets)
    ++ (by_numbers device_variables variables_of_device first_of_devices cs
    ++ (by_numbers net_variable 1 (first_of_nets cs) nets
    ++ (all_extra_variables x cs nets ++ codes "$upscope $end\n$enddefinitions $end\n"))))

-- ---- their first values

abbrev pub first_lines : Shown → List ℕ
first_lines s =
    byte_line 0 s.tck
    ++ (byte_line 1 s.tms ++ (byte_line 2 s.tdi ++ (byte_line 3 s.tdo ++ byte_line 4 s.trst)))

-- before the first statement
abbrev pub first_number : List ℕ
first_number = codes "b0 &\n"

abbrev pub net_line : List Net → List ChipState → ℕ → Net → List ℕ
net_line nets cs n net = byte_line n (level_byte (level nets (members cs) net))

-- the devices and the nets
abbrev pub board_lines : List ChipState → List Net → List ℕ
board_lines cs nets =
    by_numbers device_lines variables_of_device first_of_devices cs
    ++ by_numbers (net_line nets cs) 1 (first_of_nets cs) nets

-- No bit is wanted yet, and none has failed.
abbrev pub first_notes : ℕ → List ℕ
first_notes n =
    byte_line n unknown
    ++ (byte_line (n + 1) (digit false) ++ (bits_line (n + 2) (codes "x") ++ word_line (n + 3) (codes "none")))

abbrev pub noted_values : (noted : Bool) → ℕ → List ℕ
noted_values noted n = if noted then first_notes n else []

abbrev pub first_values : (noted : Bool) → Extras → Shown → List ChipState → List Net → List ℕ
first_values noted x s cs nets =
    codes "#0\n$dumpvars\n"
    ++ (first_lines s
    ++ (first_number
    ++ (board_lines cs nets
    ++ (noted_values noted (first_of_notes cs nets) ++ (all_extra_lines x cs nets ++ codes "$end\n")))))
