-- The cycles of a step between its paths.
use Rattle.std.specs.Prelude.{ℕ, ◌-◌, min, false, List, map, replicate, length}
use Rattle.scan_vectors.specs.Held.{bits, left_in_part}
use Rattle.bitbang_protocol.specs.declared.Cycle.{Cycle}
use Rattle.tck_cycles.specs.declared.middle.Middle.{Middle}
use Rattle.tck_cycles.specs.declared.middle.Middle.TheVariants as middle
use Rattle.tck_cycles.specs.Cycles.{entering, scan_cycles}

abbrev pub middle_cycles : Middle → List Cycle
middle_cycles (middle.Path path) = map entering path.now
middle_cycles (middle.Vector v) = scan_cycles (bits v)
middle_cycles (middle.Stay s n) = replicate n (entering s)

-- the cycle that stays in a state, where there is one
abbrev pub stayed : Middle → Cycle
stayed (middle.Stay s n) = entering s
stayed _ = record { tms = false; tdi = false; read = false }

-- how many cycles from a place on stay in one state
abbrev pub stays_from : Middle → ℕ → ℕ
stays_from (middle.Stay s n) k = n - k
stays_from _ k = 0

-- how many cycles from a place on are known at once to shift: up to 64, up to the end of a part of the vector, and
-- without the last cycle of the scan
abbrev pub shifts_from : Middle → ℕ → ℕ
shifts_from (middle.Vector v) k = min 64 (min (left_in_part v k) (length (bits v) - 1 - k))
shifts_from _ k = 0
