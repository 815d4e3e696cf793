-- The plan of a board of bare devices.
use Rattle.std.specs.Prelude.{Bool, false, ℕ, zero, suc, List, [], ◌∷◌, Some}
use Rattle.bsdl_device.specs.Device.{Pattern}
use Rattle.board_plan.specs.Planned as planned
use Rattle.board_model.specs.Bare.{bare, bare_name}

-- the bare device U and this number, its core 0
abbrev pub bare_at : ℕ → planned.Member
bare_at k = record { name = bare_name k; device = bare; core = false ∷ []; follows = []; extest_update = false }

-- n of them, the first with this number
abbrev pub bare_planned : ℕ → ℕ → List planned.Member
bare_planned k zero = []
bare_planned k (suc n) = bare_at k ∷ bare_planned (suc k) n

abbrev pub bare_wiring : ℕ → planned.Wiring
bare_wiring n = record { members = bare_planned 1 n; nets = [] }

-- the opcode of two of these bits
abbrev pub two_bits : Bool → Pattern
two_bits bit = Some bit ∷ Some bit ∷ []
