-- Where a bit that comes out of a scan stood once the registers had captured. What comes out is the joined registers
-- from TDO on, and then what went in.
use Rattle.std.specs.Prelude.{Bool, ℕ, suc, ◌-◌, List, [], ◌∷◌, length, nat_lt, Option, option_and_then, slice_get}
use Rattle.std.specs.Prelude.{if◌then◌else◌}
use Rattle.jt_tap.specs.declared.Column.{Column}
use Rattle.board_model.specs.Cells.{Member}
use Rattle.board_model.specs.Whole.{selected_bits_of}
use Rattle.board_reasons.specs.declared.origins.Origin.{Origin}
use Rattle.board_reasons.specs.declared.origins.Origin.TheVariants.{Register, Tdi}

-- The origin of bit k of what comes out of these devices, the first of which has this number: a bit of the first one's
-- register, or so many bits fewer of what comes out of those behind it.
abbrev pub origin_from : Column → (device : ℕ) → List Member → ℕ → Origin
origin_from column device [] k = Tdi k
origin_from column device (m ∷ ms) k =
    let n = length (selected_bits_of column m) in
    if nat_lt k n then Register device k else origin_from column (suc device) ms (k - n)

-- the origin of bit k of what comes out of a chain
abbrev pub origin : Column → List Member → ℕ → Origin
origin column ms k = origin_from column 0 ms k

-- the bit that stands there, where these bits go in
abbrev pub bit_there : Column → List Member → List Bool → Origin → Option Bool
bit_there column ms t (Register device bit) =
    option_and_then (λ m. slice_get (selected_bits_of column m) bit) (slice_get ms device)
bit_there column ms t (Tdi bit) = slice_get t bit
