-- Which cells a reset gives their disabling value, as a mask, and a reset by it (IEEE Std 1149.1-2001, clauses 8
-- and 11).
use Rattle.std.specs.Prelude.{◌≡◌, ◌<◌, Bool, true, false, ℕ, List, map, length, if◌then◌else◌}
use Rattle.jt_bits.specs.Words.{bit_of}
use Rattle.bsdl_device.specs.declared.Cell.{Cell}
use Rattle.bsdl_device.specs.declared.Function.{Function}
use Rattle.bsdl_device.specs.declared.Function.TheVariants.{ControlR}

-- a controlr cell takes its disabling value
abbrev pub is_reset : Function → Bool
is_reset ControlR = true
is_reset _ = false

abbrev pub reset_cells : List Cell → List Bool
reset_cells cells = map (λ (c : Cell). is_reset c.function) cells

-- each marked bit is the disabling value, each other as it was
pub record ResetsEach (marked disabling old new : List Bool) : Type 0 where
  pub long : length new ≡ length old
  pub each : (i : ℕ) → i < length old
      → bit_of new i ≡ (if bit_of marked i then bit_of disabling i else bit_of old i)
