-- What each bit of a capture of the data column is taken from: what a pin sees of its net, or a bit that is the same
-- whatever the nets are (IEEE Std 1149.1-2001, clauses 9 to 12). Of devices without strings, whose cores hang on no
-- net.
use Rattle.std.specs.Prelude.{◌≡◌, Bool, false, ℕ, suc, List, [], ◌∷◌, ◌++◌, map, Option, Some, None}
use Rattle.jt_bits.specs.Words.{bit_of}
use Rattle.jt_tap.specs.declared.Column.TheVariants.{Dr}
use Rattle.bsdl_device.specs.declared.Cell.{Cell}
use Rattle.chip_instructions.specs.Instruction.{Meaning, meaning}
use Rattle.chip_instructions.specs.declared.Selected.{Selected}
use Rattle.chip_instructions.specs.declared.Selected.TheVariants.{Boundary}
use Rattle.chip_registers.specs.Registers.{Registers, capture_of, stage_of, with_stage}
use Rattle.boundary.specs.Cells.{cell_captures, takes_update}
use Rattle.boundary.specs.Masks.{sighted_port}
use Rattle.pin_nets.specs.declared.Pin.{Pin}
use Rattle.pin_nets.specs.Wired.{Net, has_port_bit}
use Rattle.board_model.specs.Cells.{Member}
use Rattle.board_model.specs.Nets.{sees_under, strings}
use Rattle.board_model.specs.Whole.{AtRest}
use Rattle.board_faults.specs.Staying.{captured, with_nets}

-- a bit that hangs on no net, or what a pin sees
pub data Source : Type 0 where
  Fixed : Bool → Source
  Seen : Pin → Source

-- the bit, with these nets and the devices in these registers
abbrev pub taken : List Net → List Member → Source → Bool
taken nets ms (Fixed b) = b
taken nets ms (Seen pin) = sees_under nets ms pin.device pin.port

-- whether a bit is taken from one of these pins
abbrev pub is_from : List Pin → Source → Bool
is_from pins (Fixed b) = false
is_from pins (Seen pin) = has_port_bit pin.device pin.port pins

-- a cell with a port whose sight it captures, or one that captures this
abbrev pub source_at : (device : ℕ) → Option ℕ → Bool → Source
source_at device (Some port) held = Seen (record { device = device; port = port })
source_at device None held = Fixed held

-- of one boundary cell, with its bits of the update stage and of the core
abbrev pub cell_source : (device : ℕ) → (from_update update core : Bool) → Cell → Source
cell_source device from_update u c cell =
    source_at device (sighted_port cell.port cell.function)
    (cell_captures false from_update u c cell.port cell.function)

-- of a boundary register, from cell k on
abbrev pub cell_sources : (device : ℕ) → (from_update : Bool) → (update core : List Bool) → ℕ → List Cell → List Source
cell_sources device from_update update core k [] = []
cell_sources device from_update update core k (c ∷ cs) =
    cell_source device from_update (bit_of update k) (bit_of core k) c
    ∷ cell_sources device from_update update core (suc k) cs

-- what stands in a register that is no boundary register once it has captured
abbrev pub fixed_bits : Selected → Option (List Bool) → Registers → List Bool
fixed_bits selected fixed r = stage_of selected (with_stage selected (capture_of selected fixed [] r) r)

-- of the register that an instruction selects
abbrev pub register_sources : (device : ℕ) → Meaning → Selected → Member → List Source
register_sources device it Boundary m =
    cell_sources device (takes_update m.extest_update it.mode) m.registers.update m.core 0 m.device.cells
register_sources device it selected m = map Fixed (fixed_bits selected it.fixed m.registers)

-- of the register that the instruction in a device's latch selects
abbrev pub member_sources : (device : ℕ) → Member → List Source
member_sources device m =
    let it = meaning m.device m.registers.latch in register_sources device it it.selected m

-- of all selected registers, from TDO to TDI, from this device on
abbrev pub sources_from : (device : ℕ) → List Member → List Source
sources_from device [] = []
sources_from device (m ∷ ms) = member_sources device m ++ sources_from (suc device) ms

abbrev pub sources : List Member → List Source
sources ms = sources_from 0 ms

-- the law: whatever the nets are, a capture takes each bit from its source
abbrev pub CapturesTakeFromSources : Type 0
CapturesTakeFromSources = (m : AtRest) → strings m.members ≡ 0 → (nets : List Net)
    → captured Dr (with_nets nets m) ≡ map (taken nets m.members) (sources m.members)
