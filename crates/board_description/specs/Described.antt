-- What a test engineer needs to know of a board to write vectors for it, one fact a line: its devices from TDO on, of
-- each its core, ports, instructions and cells, then the nets, and where its registers lie in the joined ones.
use Rattle.std.specs.Prelude.{Bool, ℕ, zero, suc, ◌+◌, List, [], ◌∷◌, ◌++◌, codes, decimal, flat_map}
use Rattle.std.specs.Prelude.{length, get_or, slice_get, Option, Some, None, option_and_then, option_map, unwrap_or}
use Rattle.std.specs.Prelude.{bytes_eq, if◌then◌else◌}
use Rattle.bsdl_device.specs.declared.Cell.{Cell}
use Rattle.bsdl_device.specs.declared.Control3.{Control3}
use Rattle.bsdl_device.specs.declared.Disabled.{Disabled}
use Rattle.bsdl_device.specs.declared.Disabled.TheVariants as leaves
use Rattle.bsdl_device.specs.declared.PortMode.{PortMode}
use Rattle.bsdl_device.specs.declared.PortMode.TheVariants as modes
use Rattle.bsdl_device.specs.Device.{Device, Name, Opcode, Pattern, PortBit}
use Rattle.chip_instructions.specs.declared.Selected.{Selected}
use Rattle.chip_instructions.specs.declared.Selected.TheVariants as select
use Rattle.chip_instructions.specs.Instruction.{instruction, meaning_of, reset_latch}
use Rattle.pin_nets.specs.declared.Follow.{Follow}
use Rattle.pin_nets.specs.declared.Pin.{Pin}
use Rattle.pin_nets.specs.declared.Pull.{Pull}
use Rattle.pin_nets.specs.declared.Pull.TheVariants as pulls
use Rattle.pin_nets.specs.Wired.{Net}
use Rattle.board_plan.specs.CellNets.{first_net}
use Rattle.board_plan.specs.LeftOut.{is_left_out}
use Rattle.board_plan.specs.Planned.{Member, Wiring}
use Rattle.board_plan.specs.View.{file as planned_file}
use Rattle.board_plan.specs.declared.plan.PlannedDevice.{PlannedDevice}
use Rattle.output_words.specs.Digits.{digit, digits, hexadecimal}
use Rattle.output_words.specs.Names.{shown}
use Rattle.output_words.specs.Texts.{texts}
use Rattle.board_description.specs.Covered.{played}
use Rattle.board_description.specs.Words.{function_word, net_name, port_of, port_words, user_words}

abbrev pub pattern_digit : Option Bool → ℕ
pattern_digit (Some bit) = digit bit
pattern_digit None = 88

abbrev pub pattern_from : (n : ℕ) → Pattern → List ℕ
pattern_from zero pattern = []
pattern_from (suc n) pattern = pattern_digit (get_or pattern n None) ∷ pattern_from n pattern

-- an opcode as descriptions write it, the highest bit first, X for either
abbrev pub pattern_digits : Pattern → List ℕ
pattern_digits pattern = pattern_from (length pattern) pattern

-- a code has 32 bits
abbrev pub code_digits : ℕ
code_digits = 8

abbrev pub code_words : Option (List Bool) → List ℕ
code_words None = codes "none"
code_words (Some code) = codes "0x" ++ hexadecimal code_digits code

abbrev pub yes_or_no : Bool → List ℕ
yes_or_no it_is = if it_is then codes "yes" else codes "no"

abbrev pub name_or_dash : Option Name → List ℕ
name_or_dash (Some name) = name
name_or_dash None = codes "-"

-- the instruction of a reset, and the word before the code
abbrev pub reset_words : Device → List ℕ
reset_words d = texts
    (codes " reset " ∷ name_or_dash (instruction d (reset_latch d)) ∷ codes " idcode " ∷ [])

abbrev pub length_words : Device → List ℕ
length_words d = texts (codes " length " ∷ decimal d.instruction_length ∷ codes " capture " ∷ [])

abbrev pub trst_words : Device → List ℕ
trst_words d = texts (codes " trst " ∷ yes_or_no d.has_trst ∷ codes "\n" ∷ [])

-- a device: its description's file, its instruction register, the instruction of a reset, its code, and its TRST port
abbrev pub device_line : (file name : List ℕ) → Device → List ℕ
device_line file name d =
    texts (name ∷ codes " bsdl " ∷ []) ++ (shown file ++ (length_words d ++ (digits d.capture ++ (reset_words d
    ++ (code_words d.idcode ++ trst_words d)))))

-- ---- what decides what a device shows and captures

abbrev pub usercode_words : (name code : List ℕ) → List ℕ
usercode_words name code = texts (name ∷ codes " usercode 0x" ∷ code ∷ codes "\n" ∷ [])

-- the user code, where there is one
abbrev pub usercode_line : (name : List ℕ) → Device → List ℕ
usercode_line name d =
    unwrap_or (option_map (λ code. usercode_words name (hexadecimal code_digits code)) d.usercode) []

abbrev pub extest_words : (update : Bool) → List ℕ
extest_words update = if update then codes " extest update\n" else codes " extest core\n"

-- the constant bits of the core, as board files write them (cell 0 last), and what EXTEST captures
abbrev pub core_line : (name : List ℕ) → (core : List Bool) → (update : Bool) → List ℕ
core_line name core update = texts (name ∷ codes " core " ∷ []) ++ (digits core ++ extest_words update)

abbrev pub port_if : Device → Option ℕ → List ℕ
port_if d None = []
port_if d (Some p) = port_of d p

-- the port that a cell drives
abbrev pub target_words : Device → (cell : ℕ) → List ℕ
target_words d cell = port_if d (option_and_then (λ (c : Cell). c.port) (slice_get d.cells cell))

abbrev pub equals_words : (inverted : Bool) → List ℕ
equals_words inverted = if inverted then codes " = !" else codes " = "

-- a string of the core, as board files write it: the port that it drives, and that which it sees
abbrev pub follow_line : (name : List ℕ) → Device → Follow → List ℕ
follow_line name d f =
    texts (name ∷ codes " follow " ∷ []) ++ (target_words d f.cell ++ (equals_words f.inverted
    ++ (port_of d f.source ++ codes "\n")))

abbrev pub mode_word : PortMode → List ℕ
mode_word modes.In = codes "in"
mode_word modes.Out = codes "out"
mode_word modes.InOut = codes "inout"
mode_word modes.Buffer = codes "buffer"
mode_word modes.Linkage = codes "linkage"

abbrev pub on_net : List Net → Option ℕ → List ℕ
on_net nets None = codes " no net"
on_net nets (Some n) = codes " net " ++ net_name nets n

-- the net that a port bit is on; the ports of the TAP are on none
abbrev pub reach : List Net → (is_tap : Bool) → Option ℕ → List ℕ
reach nets is_tap net = if is_tap then codes " tap" else on_net nets net

-- a port bit: its mode, and its net
abbrev pub port_line : List Net → (name : List ℕ) → PortBit → (net : Option ℕ) → List ℕ
port_line nets name p net =
    texts (name ∷ codes " port " ∷ []) ++ (port_words p ++ (texts (codes " " ∷ mode_word p.mode ∷ [])
    ++ (reach nets p.is_tap net ++ codes "\n")))

-- port bits from number k on
abbrev pub port_lines : List Net → (device : ℕ) → (name : List ℕ) → ℕ → List PortBit → List ℕ
port_lines nets device name k [] = []
port_lines nets device name k (p ∷ ps) =
    port_line nets name p (first_net device k 0 nets) ++ port_lines nets device name (suc k) ps

abbrev pub setting_lines : List Net → (device : ℕ) → Member → List ℕ
setting_lines nets device m =
    usercode_line m.name m.device ++ (core_line m.name m.core m.extest_update
    ++ (flat_map (follow_line m.name m.device) m.follows ++ port_lines nets device m.name 0 m.device.ports))

-- ---- instructions and cells

-- a user register and its length
abbrev pub user_part : Device → ℕ → ℕ → List ℕ
user_part d k long = texts (codes "of " ∷ user_words d k ∷ codes " " ∷ decimal long ∷ [])

-- the data register that an instruction selects, and its length
abbrev pub register_words : Device → Selected → List ℕ
register_words d select.Bypass = codes "bypass 1"
register_words d select.Identification = codes "identification 32"
register_words d select.Boundary = codes "boundary " ++ decimal (length d.cells)
register_words d (select.User k) = unwrap_or (option_map (user_part d k) (slice_get d.users k)) []

abbrev pub left_out_words : Bool → List ℕ
left_out_words left_out = if left_out then codes " stands for BYPASS\n" else codes "\n"

abbrev pub opcode_front : (device : List ℕ) → Name → Pattern → List ℕ
opcode_front device name pattern =
    texts (device ∷ codes " instruction " ∷ name ∷ codes " " ∷ []) ++ (pattern_digits pattern ++ codes " register ")

-- what ends the line of an opcode of an instruction, given the instruction that the board plays by it
abbrev pub end_words : Device → (name played : Name) → List ℕ
end_words d name played =
    if bytes_eq played name then left_out_words (is_left_out d name)
    else texts (codes " covered by " ∷ played ∷ codes "\n" ∷ [])

-- an opcode of an instruction, and the register that the board selects by it
abbrev pub opcode_line_by : (device : List ℕ) → Device → Name → Pattern → (played : Name) → List ℕ
opcode_line_by device d name pattern played =
    opcode_front device name pattern
    ++ (register_words d (meaning_of d (Some played)).selected ++ end_words d name played)

abbrev pub opcode_line : (device : List ℕ) → Device → Name → Pattern → List ℕ
opcode_line device d name pattern = opcode_line_by device d name pattern (played d name pattern)

abbrev pub instruction_lines : (device : List ℕ) → Device → Opcode → List ℕ
instruction_lines device d row = flat_map (opcode_line device d row.name) row.patterns

abbrev pub disabled_word : Disabled → List ℕ
disabled_word leaves.Z = codes "Z"
disabled_word leaves.Keeper = codes "KEEPER"
disabled_word leaves.Weak0 = codes "WEAK0"
disabled_word leaves.Weak1 = codes "WEAK1"
disabled_word leaves.Pull0 = codes "PULL0"
disabled_word leaves.Pull1 = codes "PULL1"

-- the cell that disables a driving cell, by which value, and what is driven then
abbrev pub control_words : Option Control3 → List ℕ
control_words None = []
control_words (Some c) = texts
    (codes " control " ∷ decimal c.cell ∷ codes " disables " ∷ (digit c.disabling ∷ []) ∷ codes " leaves "
    ∷ disabled_word c.leaves ∷ [])

-- a port bit of the device at a place, and its net
abbrev pub port_on_net : List Net → (device port : ℕ) → PortBit → List ℕ
port_on_net nets device port p = texts (codes " port " ∷ port_words p ∷ on_net nets (first_net device port 0 nets) ∷ [])

abbrev pub port_part : List Net → (device : ℕ) → Device → Option ℕ → List ℕ
port_part nets device d None = []
port_part nets device d (Some p) = unwrap_or (option_map (port_on_net nets device p) (slice_get d.ports p)) []

abbrev pub cell_line : List Net → (device : ℕ) → (name : List ℕ) → Device → ℕ → Cell → List ℕ
cell_line nets device name d k cell = texts
    (name ∷ codes " cell " ∷ decimal k ∷ codes " " ∷ function_word cell.function
    ∷ port_part nets device d cell.port ∷ control_words cell.control ∷ codes "\n" ∷ [])

-- cells from number k on
abbrev pub cell_lines : List Net → (device : ℕ) → (name : List ℕ) → Device → ℕ → List Cell → List ℕ
cell_lines nets device name d k [] = []
cell_lines nets device name d k (cell ∷ cells) =
    cell_line nets device name d k cell ++ cell_lines nets device name d (suc k) cells

-- the device at a place, with the file of its description
abbrev pub device_part : List Net → (device : ℕ) → (file : List ℕ) → Member → List ℕ
device_part nets device file m =
    device_line file m.name m.device ++ (setting_lines nets device m
    ++ (flat_map (instruction_lines m.name m.device) m.device.opcodes
    ++ cell_lines nets device m.name m.device 0 m.device.cells))

-- the file of a device's description, `-` where it is in none
abbrev pub shown_file : PlannedDevice → List ℕ
shown_file m = unwrap_or (planned_file m) (codes "-")

-- the devices from a place on, with the files of their descriptions
abbrev pub device_lines : List Net → (device : ℕ) → (files : List (List ℕ)) → List Member → List ℕ
device_lines nets device (file ∷ files) (m ∷ ms) =
    device_part nets device file m ++ device_lines nets (suc device) files ms
device_lines nets device _ _ = []

abbrev pub pull_word : Pull → List ℕ
pull_word pulls.Free = codes "none"
pull_word pulls.Up = codes "up"
pull_word pulls.Down = codes "down"

-- a pin as board files write it, behind a blank
abbrev pub pin_of : (port : ℕ) → Member → List ℕ
pin_of port m = texts (codes " " ∷ m.name ∷ codes "." ∷ port_of m.device port ∷ [])

abbrev pub pin_words : List Member → Pin → List ℕ
pin_words ms pin = unwrap_or (option_map (pin_of pin.port) (slice_get ms pin.device)) []

abbrev pub net_line : List Member → Net → List ℕ
net_line ms net =
    texts (codes "net " ∷ net.name ∷ codes " pull " ∷ [])
    ++ (pull_word net.pull ++ (flat_map (pin_words ms) net.pins ++ codes "\n"))

abbrev pub total : (Member → ℕ) → List Member → ℕ
total long [] = 0
total long (m ∷ ms) = long m + total long ms

abbrev pub instruction_length : Member → ℕ
instruction_length m = m.device.instruction_length

abbrev pub boundary_length : Member → ℕ
boundary_length m = length m.device.cells

-- the chain: its devices, and how many bits its joined instruction and boundary registers have
abbrev pub chain_line : List Member → List ℕ
chain_line ms = texts
    (codes "chain " ∷ decimal (length ms) ∷ codes " devices, "
    ∷ decimal (total instruction_length ms) ∷ codes " instruction bits, "
    ∷ decimal (total boundary_length ms) ∷ codes " boundary bits\n" ∷ [])

abbrev pub place_line : (instruction boundary : ℕ) → (name : List ℕ) → List ℕ
place_line instruction boundary name = texts
    (name ∷ codes " first instruction bit " ∷ decimal instruction ∷ codes " first boundary bit " ∷ decimal boundary
    ∷ codes "\n" ∷ [])

-- of each device the first bit of its instruction and boundary registers, where the chain joins those of all devices;
-- so many bits lie before the first of these devices
abbrev pub place_lines : (instruction boundary : ℕ) → List Member → List ℕ
place_lines instruction boundary [] = []
place_lines instruction boundary (m ∷ ms) =
    place_line instruction boundary m.name
    ++ place_lines (instruction + instruction_length m) (boundary + boundary_length m) ms

abbrev pub net_lines : Wiring → List ℕ
net_lines w = flat_map (net_line w.members) w.nets

-- nets, places and chain
abbrev pub wiring_lines : Wiring → List ℕ
wiring_lines w = net_lines w ++ (place_lines 0 0 w.members ++ chain_line w.members)

-- a board whose devices are described in these files
abbrev pub described : (files : List (List ℕ)) → Wiring → List ℕ
described files w = device_lines w.nets 0 files w.members ++ wiring_lines w
