-- The lines that say of a wanted bit that did not come out what it was, and where it came from.
use Rattle.std.specs.Prelude.{ℕ, Bool, List, [], ◌∷◌, ◌++◌, codes, decimal, slice_get, Option, Some, None, option_map}
use Rattle.std.specs.Prelude.{unwrap_or, if◌then◌else◌}
use Rattle.scan_vectors.specs.declared.part.Part.{Part}
use Rattle.scan_vectors.specs.declared.part.Part.TheVariants.{Header, Data, Trailer}
use Rattle.bsdl_device.specs.declared.Cell.{Cell}
use Rattle.bsdl_device.specs.Device.{Device, Name, Opcode}
use Rattle.pin_nets.specs.Wired.{Net}
use Rattle.board_plan.specs.LeftOut.{is_left_out}
use Rattle.board_model.specs.Cells.{Member}
use Rattle.output_words.specs.Levels.{level_word}
use Rattle.output_words.specs.Texts.{texts}
use Rattle.board_description.specs.Words.{function_word, net_name, port_of, user_words}
use Rattle.board_reasons.specs.declared.origins.Captured.{Captured}
use Rattle.board_reasons.specs.declared.origins.Captured.TheVariants.{Core, Update, Sight}
use Rattle.board_reasons.specs.declared.origins.NetLevel.{NetLevel}
use Rattle.board_reasons.specs.declared.origins.Holder.{Holder}
use Rattle.board_reasons.specs.declared.origins.Holder.TheVariants as held
use Rattle.board_reasons.specs.declared.origins.SelectedBy.{SelectedBy}
use Rattle.board_reasons.specs.declared.origins.SelectedBy.TheVariants.{AllOnes, Row, NoRow}

-- what was wanted, and what came
abbrev pub wanted_line : (wanted : Bool) → List ℕ
wanted_line wanted = if wanted then codes "wanted 1 got 0\n" else codes "wanted 0 got 1\n"

-- a net, and its level
abbrev pub level_words : List Net → NetLevel → List ℕ
level_words nets shown =
    texts (codes " net " ∷ net_name nets shown.net ∷ codes " level " ∷ []) ++ level_word shown.level

-- the net of a port, and its level
abbrev pub net_words : List Net → Option NetLevel → List ℕ
net_words nets None = codes " no net"
net_words nets (Some shown) = level_words nets shown

-- what a cell captured: its core's bit, its own update bit, or the level of its port's net
abbrev pub captured_words : List Net → Captured → List ℕ
captured_words nets Core = codes " captured core"
captured_words nets Update = codes " captured update"
captured_words nets (Sight shown) = net_words nets shown

-- the port bit of a cell, where it has one
abbrev pub at_port : Device → Option ℕ → List ℕ
at_port d None = []
at_port d (Some p) = codes " port " ++ port_of d p

-- a cell: what it does, its port, and what it captured
abbrev pub cell_words : List Net → Device → Captured → Cell → List ℕ
cell_words nets d captured cell =
    texts (codes " " ∷ function_word cell.function ∷ []) ++ (at_port d cell.port ++ captured_words nets captured)

abbrev pub cell_number : ℕ → List ℕ
cell_number cell = texts (codes "boundary cell " ∷ decimal cell ∷ [])

abbrev pub found_cell : List Net → Device → Captured → Option Cell → List ℕ
found_cell nets d captured found = unwrap_or (option_map (cell_words nets d captured) found) []

-- a boundary cell of a device by its number
abbrev pub cell_line : List Net → Device → ℕ → Captured → List ℕ
cell_line nets d cell captured = cell_number cell ++ found_cell nets d captured (slice_get d.cells cell)

abbrev pub left_out_words : Device → Name → List ℕ
left_out_words d name = if is_left_out d name then codes " which stands for BYPASS" else []

-- by the instruction of a name
abbrev pub by_name : Device → Name → List ℕ
by_name d name = texts (codes " by instruction " ∷ name ∷ left_out_words d name ∷ [])

-- by that of a row
abbrev pub by_row : Device → Opcode → List ℕ
by_row d row = by_name d row.name

-- by which instruction a register was selected
abbrev pub by_words : Device → SelectedBy → List ℕ
by_words d AllOnes = codes " by instruction BYPASS"
by_words d (Row k) = unwrap_or (option_map (by_row d) (slice_get d.opcodes k)) []
by_words d NoRow = codes " by an opcode without an instruction"

-- what holds a bit of a device, in words
abbrev pub holder_words : List Net → Device → Holder → List ℕ
holder_words nets d (held.Bypass device by) = codes "bypass" ++ by_words d by
holder_words nets d (held.Identification device bit) = codes "identification bit " ++ decimal bit
holder_words nets d (held.User device k bit) = texts
    (codes "register of " ∷ user_words d k ∷ codes " bit " ∷ decimal bit ∷ [])
holder_words nets d (held.Instruction device bit) = codes "instruction bit " ++ decimal bit
holder_words nets d (held.Cell device cell captured) = cell_line nets d cell captured
holder_words nets d (held.Tdi part bit) = []

abbrev pub from_device : List Net → Holder → (name : List ℕ) → Device → List ℕ
from_device nets h name d = texts (codes "from " ∷ name ∷ codes " " ∷ []) ++ (holder_words nets d h ++ codes "\n")

abbrev pub of_member : List Net → Holder → Member → List ℕ
of_member nets h m = from_device nets h m.name m.device

-- the line of a bit that a device of the chain held
abbrev pub of_device : List Net → List Member → Holder → ℕ → List ℕ
of_device nets ms h device = unwrap_or (option_map (of_member nets h) (slice_get ms device)) []

-- the parts of a vector, as the line of a failing bit calls them
abbrev pub part_word : Part → List ℕ
part_word Header = codes "header"
part_word Data = codes "data"
part_word Trailer = codes "trailer"

-- a bit that went in at TDI, counted in its part as that of a failing bit is
abbrev pub tdi_line : Part → ℕ → List ℕ
tdi_line part bit = texts (codes "from TDI " ∷ part_word part ∷ codes " bit " ∷ decimal bit ∷ codes "\n" ∷ [])

-- where a bit came from
abbrev pub from_line : List Net → List Member → Holder → List ℕ
from_line nets ms (held.Tdi part bit) = tdi_line part bit
from_line nets ms (held.Bypass device by) = of_device nets ms (held.Bypass device by) device
from_line nets ms (held.Identification device bit) = of_device nets ms (held.Identification device bit) device
from_line nets ms (held.User device k bit) = of_device nets ms (held.User device k bit) device
from_line nets ms (held.Instruction device bit) = of_device nets ms (held.Instruction device bit) device
from_line nets ms (held.Cell device cell captured) = of_device nets ms (held.Cell device cell captured) device
