-- What `check` tells of a board: a line for each instruction that stands for BYPASS.
use Rattle.std.specs.Prelude.{ℕ, List, [], ◌++◌, flat_map, codes, if◌then◌else◌}
use Rattle.bsdl_device.specs.Device.{Device, Name}
use Rattle.board_plan.specs.LeftOut.{is_left_out, left_out}
use Rattle.board_chain.specs.Chain.{BoardState, ChipState}

abbrev pub left_out_line : List ℕ → List ℕ → List ℕ
left_out_line device instruction = (device ++ codes " treats ") ++ (instruction ++ codes " as BYPASS\n")

-- of one instruction, none where it has a meaning of its own
abbrev pub name_lines : List ℕ → Device → Name → List ℕ
name_lines device d name = if is_left_out d name then left_out_line device name else []

-- of a device, in the order of its opcode rows
abbrev pub device_lines : ChipState → List ℕ
device_lines c = flat_map (left_out_line c.member.name) (left_out c.member.device)

-- of all devices, the one nearest TDO first
abbrev pub left_out_lines : BoardState → List ℕ
left_out_lines b = flat_map device_lines b.chips
