-- The report of a board: a line for each device, from the one nearest TDO on, and one for each named net.
use Rattle.std.specs.Prelude.{List, ℕ, ◌++◌, flat_map, codes, Option, Some, None}
use Rattle.jt_tap.specs.Words.{word}
use Rattle.bsdl_device.specs.Device.{Name}
use Rattle.chip_instructions.specs.Instruction.{instruction}
use Rattle.board_chain.specs.Cells.{Member}
use Rattle.pin_nets.specs.declared.Level.{Level}
use Rattle.pin_nets.specs.Wired.{Net}
use Rattle.output_words.specs.Digits.{digits}
use Rattle.output_words.specs.Levels.{level_word}
use Rattle.board_chain.specs.Nets.{level}
use Rattle.board_chain.specs.Chain.{BoardState, ChipState, members}

abbrev pub name_or_dash : Option Name → List ℕ
name_or_dash (Some name) = name
name_or_dash None = codes "-"

-- an instruction: its bits and its name
abbrev pub instruction_part : ChipState → List ℕ
instruction_part c =
    digits c.member.registers.latch ++ codes " "
    ++ (name_or_dash (instruction c.member.device c.member.registers.latch) ++ codes "\n")

-- a device: its name, the word of its controller's state, and its instruction
abbrev pub device_line : ChipState → List ℕ
device_line c = (c.member.name ++ codes " ") ++ (word c.state ++ codes " ") ++ instruction_part c

abbrev pub level_line : List ℕ → Level → List ℕ
level_line name l = (name ++ codes " ") ++ (level_word l ++ codes "\n")

-- a net of the board: its name and its level
abbrev pub net_line : List Net → List Member → Net → List ℕ
net_line nets ms net = level_line net.name (level nets ms net)

abbrev pub report : BoardState → List ℕ
report b = flat_map device_line b.chips ++ flat_map (net_line b.nets (members b.chips)) b.nets
