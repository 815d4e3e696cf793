-- Cycles that shift, as two words tell them.
use Rattle.std.specs.Prelude.{ℕ, false, List, map}
use Rattle.std.specs.List.{range_with_len}
use Rattle.jt_bits.specs.Packed.{has_bit}
use Rattle.bitbang_protocol.specs.declared.Cycle.{Cycle}
use Rattle.tck_cycles.specs.declared.shifts.Shifts.{Shifts}

-- cycle j: TMS 0, and bit j of each word
abbrev pub shift_cycle : Shifts → ℕ → Cycle
shift_cycle s j = record { tms = false; tdi = has_bit s.tdi j; read = has_bit s.read j }

-- all of them
abbrev pub shift_cycles : Shifts → List Cycle
shift_cycles s = map (shift_cycle s) (range_with_len 0 s.len)
