-- Lengths as the code has them: a number from 2^64 on is the length of nothing.
use Rattle.std.specs.Prelude.{ℕ, ◌<◌, ◌^◌, ◌==◌, Bool, true, false, not, length, Option, Some, None, SomeIff}
use Rattle.std.specs.List.{list_all}
use Rattle.bsdl_device.specs.Device.{Pattern}
use Rattle.bsdl_values.specs.InstructionValues.{Instr}
use Rattle.bsdl_rules.specs.Lengths.{patterns_captured}

-- n, if it is a size
abbrev pub IsSize : Option ℕ → ℕ → Type 0
IsSize s n = SomeIff s (n < 2 ^ 64) n

abbrev pub is_len : Option ℕ → Pattern → Bool
is_len None p = false
is_len (Some n) p = length p == n

abbrev pub captures_are : Option ℕ → Instr → Bool
captures_are s i = list_all (is_len s) (patterns_captured i.captures)

-- a bit of a pattern is there, and is this one
abbrev pub is_bit : Option (Option Bool) → Bool → Bool
is_bit (Some (Some true)) wanted = wanted
is_bit (Some (Some false)) wanted = not wanted
is_bit (Some None) wanted = false
is_bit None wanted = false
