-- The cycles that a source has, and those that it has left.
use Rattle.std.specs.Prelude.{ℕ, ◌-◌, min, max, nat_lt, if◌then◌else◌, List, ◌++◌, map, drop, length}
use Rattle.bitbang_protocol.specs.declared.Cycle.{Cycle}
use Rattle.tck_cycles.specs.declared.middle.Middle.{Middle}
use Rattle.tck_cycles.specs.declared.source.Source.{Source}
use Rattle.tck_cycles.specs.declared.source.Spot.{Spot}
use Rattle.tck_cycles.specs.Cycles.{entering}
use Rattle.tck_cycles.specs.Middles.{middle_cycles, shifts_from, stays_from}

-- all of them
abbrev pub whole : Source → List Cycle
whole s = map entering s.lead.items ++ middle_cycles s.middle ++ map entering s.tail.items

-- those behind a spot
abbrev pub behind : Spot → List Cycle → List Cycle
behind spot cs = drop spot.at cs

abbrev pub left : Source → List Cycle
left s = drop s.at (whole s)

-- what is known of the middle from where a source stands on, 0 where it stands before the middle
abbrev pub in_middle : (Middle → ℕ → ℕ) → Source → ℕ
in_middle known s = if nat_lt s.at (length s.lead.items) then 0 else known s.middle (s.at - length s.lead.items)

-- how many cycles from where a source stands are known at once to be alike: what is left of a stay, else one if any
-- is left
abbrev pub alike_at_once : Source → ℕ
alike_at_once s = max (in_middle stays_from s) (min 1 (length (left s)))

-- how many cycles from where a source stands are known at once to shift
abbrev pub shifts_at_once : Source → ℕ
shifts_at_once s = in_middle shifts_from s
