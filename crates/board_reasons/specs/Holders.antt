-- What held a bit that came out of a scan: the register and the instruction that selected it, the boundary cell and
-- what that captured, or the bit of the vector that had gone in.
use Rattle.std.specs.Prelude.{ℕ, Bool, List, option_and_then, option_map, slice_get, unwrap_or, Option, Some, None}
use Rattle.std.specs.Prelude.{bytes_eq, if◌then◌else◌}
use Rattle.std.specs.List.{position}
use Rattle.jt_tap.specs.declared.Column.{Column}
use Rattle.jt_tap.specs.declared.Column.TheVariants.{Dr, Ir}
use Rattle.scan_vectors.specs.declared.part.Part.TheVariants.{Data}
use Rattle.scan_vectors.specs.Vector.{VectorBit}
use Rattle.bsdl_device.specs.declared.Cell.{Cell as BoundaryCell}
use Rattle.bsdl_device.specs.declared.Function.{Function}
use Rattle.bsdl_device.specs.declared.Function.TheVariants as kind
use Rattle.bsdl_device.specs.Device.{Device, Name, Opcode}
use Rattle.chip_instructions.specs.declared.Selected.{Selected}
use Rattle.chip_instructions.specs.declared.Selected.TheVariants as select
use Rattle.chip_instructions.specs.Instruction.{instruction, meaning}
use Rattle.boundary.specs.Cells.{takes_update}
use Rattle.pin_nets.specs.Wired.{Net}
use Rattle.board_plan.specs.CellNets.{cell_net}
use Rattle.board_model.specs.Cells.{Member}
use Rattle.board_model.specs.Nets.{level}
use Rattle.board_reasons.specs.declared.origins.Captured.{Captured}
use Rattle.board_reasons.specs.declared.origins.Captured.TheVariants.{Core, Update, Sight}
use Rattle.board_reasons.specs.declared.origins.NetLevel.{NetLevel}
use Rattle.board_reasons.specs.declared.origins.Holder.{Holder}
use Rattle.board_reasons.specs.declared.origins.Holder.TheVariants.{Bypass, Identification, User, Instruction, Cell}
use Rattle.board_reasons.specs.declared.origins.Holder.TheVariants.{Tdi}
use Rattle.board_reasons.specs.declared.origins.Origin.{Origin}
use Rattle.board_reasons.specs.declared.origins.Origin.TheVariants as place
use Rattle.board_reasons.specs.declared.origins.SelectedBy.{SelectedBy}
use Rattle.board_reasons.specs.declared.origins.SelectedBy.TheVariants.{AllOnes, Row, NoRow}
use Rattle.board_reasons.specs.Origins.{origin}

-- a net of the board by its number, and its level
abbrev pub net_level : List Net → List Member → ℕ → Option NetLevel
net_level nets ms n = option_map (λ net. record { net = n; level = level nets ms net }) (slice_get nets n)

-- the net that the port of a device's cell is on, if it has a port and that is on a net with a name
abbrev pub cell_level : List Net → List Member → (device cell : ℕ) → Device → Option NetLevel
cell_level nets ms device cell d =
    option_and_then (net_level nets ms) (option_and_then (cell_net nets device) (slice_get d.cells cell))

-- What one cell captures: an input, clock, observe-only or bidirectional cell what its port sees, an internal cell its
-- core bit, an output or control its core bit, or its update bit where a capture takes that.
abbrev pub captured_by : (from_update : Bool) → (net : Option NetLevel) → (port : Option ℕ) → Function → Captured
captured_by from_update net (Some p) kind.Input = Sight net
captured_by from_update net (Some p) kind.Clock = Sight net
captured_by from_update net (Some p) kind.ObserveOnly = Sight net
captured_by from_update net (Some p) kind.Bidir = Sight net
captured_by from_update net port kind.Internal = Core
captured_by from_update net port _ = if from_update then Update else Core

-- whether a capture of a device takes its update stage: in EXTEST, where the board file says so of the device
abbrev pub from_update : Member → Bool
from_update m = takes_update m.extest_update (meaning m.device m.registers.latch).mode

-- what this cell of a device captured
abbrev pub cell_captured : List Net → List Member → (device cell : ℕ) → Member → BoundaryCell → Captured
cell_captured nets ms device cell m c =
    captured_by (from_update m) (cell_level nets ms device cell m.device) c.port c.function

-- what a cell of a device captured, by its number
abbrev pub captured_at : List Net → List Member → (device cell : ℕ) → Member → Captured
captured_at nets ms device cell m =
    unwrap_or (option_map (cell_captured nets ms device cell m) (slice_get m.device.cells cell)) Core

abbrev pub is_named : Name → Opcode → Bool
is_named name row = bytes_eq row.name name

-- By which instruction a register is selected: by the first row with its name; a name without a row is BYPASS, which
-- all ones always are; or by an opcode that no row has.
abbrev pub selected_by : List Opcode → Option Name → SelectedBy
selected_by rows None = NoRow
selected_by rows (Some name) = unwrap_or (option_map Row (position (is_named name) rows)) AllOnes

-- bit b of the data register that an instruction selects
abbrev pub in_register : List Net → List Member → (device bit : ℕ) → Member → Selected → Holder
in_register nets ms device bit m select.Bypass =
    Bypass device (selected_by m.device.opcodes (instruction m.device m.registers.latch))
in_register nets ms device bit m select.Identification = Identification device bit
in_register nets ms device bit m select.Boundary = Cell device bit (captured_at nets ms device bit m)
in_register nets ms device bit m (select.User k) = User device k bit

-- bit b of the register that a device has between TDI and TDO
abbrev pub held_in : List Net → List Member → Column → (device bit : ℕ) → Member → Holder
held_in nets ms Ir device bit m = Instruction device bit
held_in nets ms Dr device bit m = in_register nets ms device bit m (meaning m.device m.registers.latch).selected

-- bit k of a vector, by its part and its place there
abbrev pub gone_in : List VectorBit → ℕ → Holder
gone_in v k = unwrap_or (option_map (λ (b : VectorBit). Tdi b.part b.place) (slice_get v k)) (Tdi Data k)

-- what holds the bit at a place of the chain, where this vector goes in
abbrev pub holder_at : List Net → List Member → Column → List VectorBit → Origin → Holder
holder_at nets ms column v (place.Tdi bit) = gone_in v bit
holder_at nets ms column v (place.Register device bit) =
    unwrap_or (option_map (held_in nets ms column device bit) (slice_get ms device)) (gone_in v bit)

-- What held bit k of what comes out of a chain whose registers have captured, where this vector goes in, with the
-- levels of before the capture, which no capture changes.
abbrev pub holder : List Net → List Member → Column → List VectorBit → ℕ → Holder
holder nets ms column v k = holder_at nets ms column v (origin column ms k)
