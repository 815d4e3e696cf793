-- What it means that a bit came from there: it is that bit, and it turns with that bit and with no other.
use Rattle.std.specs.Prelude.{◌≡◌, ◌≢◌, Bool, true, not, ℕ, ◌<◌, List, [], length, slice_get, Option, Some, None}
use Rattle.std.specs.Prelude.{codes, false, option_map, unwrap_or}
use Rattle.jt_tap.specs.declared.Column.{Column}
use Rattle.jt_tap.specs.declared.Column.TheVariants.{Dr}
use Rattle.scan_vectors.specs.declared.failures.Mismatch.{Mismatch}
use Rattle.scan_vectors.specs.Failures.{differing}
use Rattle.scan_vectors.specs.Vector.{PartBits, VectorBit, differs, join, tdis}
use Rattle.bsdl_device.specs.declared.Cell.{Cell}
use Rattle.bsdl_device.specs.Device.{Device, Name, Opcode}
use Rattle.chip_instructions.specs.declared.Selected.TheVariants.{Boundary}
use Rattle.chip_instructions.specs.Instruction.{instruction, meaning}
use Rattle.boundary.specs.Sight.{seen_at}
use Rattle.board_model.specs.Cells.{Member, Told}
use Rattle.board_model.specs.Nets.{level, told}
use Rattle.board_model.specs.Whole.{AtRest, capture, capture_member, out_of_members}
use Rattle.pin_nets.specs.Levels.{reads}
use Rattle.pin_nets.specs.Wired.{Net}
use Rattle.board_reasons.specs.declared.origins.Captured.{Captured}
use Rattle.board_reasons.specs.declared.origins.Captured.TheVariants.{Core, Update, Sight}
use Rattle.board_reasons.specs.declared.origins.Holder.TheVariants.{Tdi}
use Rattle.board_reasons.specs.declared.origins.Origin.{Origin}
use Rattle.board_reasons.specs.declared.origins.Origin.TheVariants.{Register}
use Rattle.board_reasons.specs.declared.origins.SelectedBy.{SelectedBy}
use Rattle.board_reasons.specs.declared.origins.SelectedBy.TheVariants.{AllOnes, Row, NoRow}
use Rattle.board_reasons.specs.Holders.{captured_at, gone_in, selected_by}
use Rattle.board_reasons.specs.Origins.{bit_there, origin}
use Rattle.board_reasons.specs.Reasons.{place_in, wanted_at}
use Rattle.board_reasons.specs.Turned.{turned, members_turned, tdi_turned}

-- what comes out where the bit that stands there is turned
abbrev pub out_turned : Column → Origin → List Bool → List Member → List Bool
out_turned column o t ms = out_of_members column (tdi_turned o t) (members_turned column o ms)

-- the bit that comes out is the bit at its origin
abbrev pub ComesFromOrigin : Type 0
ComesFromOrigin =
    (column : Column) (ms : List Member) (t : List Bool) (k : ℕ) → k < length t
    → slice_get (out_of_members column t ms) k ≡ bit_there column ms t (origin column ms k)

-- with that bit turned, what comes out has bit k turned and no other
abbrev pub TurningItTurnsThatBit : Type 0
TurningItTurnsThatBit =
    (column : Column) (ms : List Member) (t : List Bool) (k : ℕ) → k < length t
    → out_turned column (origin column ms k) t ms ≡ turned k (out_of_members column t ms)

-- with any other bit turned, bit k of what comes out stays
abbrev pub NoOtherTurnsIt : Type 0
NoOtherTurnsIt =
    (column : Column) (ms : List Member) (t : List Bool) (k : ℕ) (o : Origin) → k < length t → o ≢ origin column ms k
    → slice_get (out_turned column o t ms) k ≡ slice_get (out_of_members column t ms) k

-- bit k of a vector is wanted, and not what came out
pub record IsWrong (v : List VectorBit) (came : List Bool) (k : ℕ) : Type 0 where
  pub wants : VectorBit
  pub bit : Bool
  pub wanted : slice_get v k ≡ Some wants
  pub came_out : slice_get came k ≡ Some bit
  pub differ : differs wants.wanted bit ≡ true

-- a bit that is wrong is right once the bit at its origin is turned, and with no other
abbrev pub VerdictTurnsOnIt : Type 0
VerdictTurnsOnIt =
    (column : Column) (ms : List Member) (t : List Bool) (k : ℕ) (v : List VectorBit)
    → IsWrong v (out_of_members column t ms) k
    → (¬ IsWrong v (out_turned column (origin column ms k) t ms) k)
    × ((o : Origin) → o ≢ origin column ms k → IsWrong v (out_turned column o t ms) k)

-- No capture changes the level of a net: the level that is told of a captured board is the one that its cells captured.
abbrev pub CaptureKeepsLevels : Type 0
CaptureKeepsLevels =
    (column : Column) (m : AtRest) (net : Net)
    → level m.nets (capture column m).members net ≡ level m.nets m.members net

-- a bit of a list, 0 beyond its end
abbrev pub bit_at : List Bool → ℕ → Bool
bit_at bits k = unwrap_or (slice_get bits k) false

-- The bit that a cell captured, by what is told of it: its bit of the core or of the update stage, what the level of
-- its port's net reads as, or what its port sees where that is on no net with a name.
abbrev pub bit_told : Told → Member → (cell : ℕ) → (port : Option ℕ) → Captured → Bool
bit_told about m cell port Core = bit_at about.core cell
bit_told about m cell port Update = bit_at m.registers.update cell
bit_told about m cell port (Sight (Some shown)) = reads shown.level
bit_told about m cell port (Sight None) = seen_at about.sight port

-- Each cell of a boundary register that has captured holds the bit that is told of it, where the device was told this.
abbrev pub CellsHoldWhatIsTold : Type 0
CellsHoldWhatIsTold =
    (m : AtRest) (device cell : ℕ) (d : Member) (c : Cell) → slice_get m.members device ≡ Some d
    → (meaning d.device d.registers.latch).selected ≡ Boundary → slice_get d.device.cells cell ≡ Some c
    → let after = capture Dr m in let about = told m.nets m.members device in
    bit_there Dr after.members [] (Register device cell)
    ≡ Some (bit_told about d cell c.port
    (captured_at after.nets after.members device cell (capture_member Dr about d)))

-- the instruction that is told to have selected a register
abbrev pub instruction_told : Device → SelectedBy → Option Name
instruction_told d AllOnes = Some (codes "BYPASS")
instruction_told d (Row k) = option_map (λ (row : Opcode). row.name) (slice_get d.opcodes k)
instruction_told d NoRow = None

-- it is the one in the latch
abbrev pub TellsTheInstruction : Type 0
TellsTheInstruction =
    (d : Device) (latch : List Bool)
    → instruction_told d (selected_by d.opcodes (instruction d latch)) ≡ instruction d latch

-- a bit of a joined vector that came out again is told by its part and its place there, and stands there
abbrev pub TellsWhereItWentIn : Type 0
TellsWhereItWentIn =
    (h b t : PartBits) (k : ℕ) (x : VectorBit) → slice_get (join h b t) k ≡ Some x
    → (gone_in (join h b t) k ≡ Tdi x.part x.place) × (place_in (join h b t) x.part x.place ≡ k)

-- A failing bit of a scan of a joined vector stands where its reason says: the bit there is the one that came, which is
-- not the one that was wanted.
abbrev pub ReasonTellsTheBit : Type 0
ReasonTellsTheBit =
    (column : Column) (ms : List Member) (h b t : PartBits) (command i : ℕ) (f : Mismatch)
    → slice_get (differing command (join h b t) (out_of_members column (tdis (join h b t)) ms)) i ≡ Some f
    → IsWrong (join h b t) (out_of_members column (tdis (join h b t)) ms) (place_in (join h b t) f.part f.bit)
    × (bit_there column ms (tdis (join h b t)) (origin column ms (place_in (join h b t) f.part f.bit))
    ≡ Some (not (wanted_at (join h b t) (place_in (join h b t) f.part f.bit))))
