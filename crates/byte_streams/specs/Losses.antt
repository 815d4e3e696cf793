-- What a counted value shows of its first lost call.
use Rattle.std.specs.Prelude.{ℕ, Bool, true, false, Option, Some, None}
use Rattle.byte_streams.specs.declared.counting.Loss.{Loss}
use Rattle.byte_streams.specs.declared.counting.Loss.TheVariants.{Failed, AtEnd}

-- `failures`: how many lost calls there is a first of
abbrev pub loss_count : Option Loss → ℕ
loss_count None = 0
loss_count (Some loss) = 1

-- `at_end`: whether it met the end of input
abbrev pub is_at_end : Option Loss → Bool
is_at_end None = false
is_at_end (Some Failed) = false
is_at_end (Some AtEnd) = true
