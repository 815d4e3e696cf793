-- One bit turned, and every other as it was.
use Rattle.std.specs.Prelude.{Bool, not, ℕ, zero, suc, List, [], ◌∷◌}
use Rattle.jt_tap.specs.declared.Column.{Column}
use Rattle.chip_registers.specs.Registers.{put}
use Rattle.board_model.specs.Cells.{Member}
use Rattle.board_model.specs.Whole.{selected_bits_of}
use Rattle.board_reasons.specs.declared.origins.Origin.{Origin}
use Rattle.board_reasons.specs.declared.origins.Origin.TheVariants.{Register, Tdi}

-- a list with bit k turned
abbrev pub turned : ℕ → List Bool → List Bool
turned k [] = []
turned zero (b ∷ bits) = not b ∷ bits
turned (suc k) (b ∷ bits) = b ∷ turned k bits

-- a device with a bit of its selected register turned
abbrev pub turned_member : Column → ℕ → Member → Member
turned_member column bit m =
    record m { registers = put m.device column (turned bit (selected_bits_of column m)) m.registers }

abbrev pub turned_device : Column → (device bit : ℕ) → List Member → List Member
turned_device column device bit [] = []
turned_device column zero bit (m ∷ ms) = turned_member column bit m ∷ ms
turned_device column (suc device) bit (m ∷ ms) = m ∷ turned_device column device bit ms

-- the devices of a scan with the bit that stands there turned, and what goes in
abbrev pub members_turned : Column → Origin → List Member → List Member
members_turned column (Register device bit) ms = turned_device column device bit ms
members_turned column (Tdi bit) ms = ms

abbrev pub tdi_turned : Origin → List Bool → List Bool
tdi_turned (Register device bit) t = t
tdi_turned (Tdi bit) t = turned bit t
