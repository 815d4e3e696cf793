use Rattle.std.proofs.Common.{◌≡◌, ◌+◌, ◌-◌, ◌*◌, ◌^◌, ◌≤◌, true, length, drop}
use Rattle.std.specs.List.{list_all}
use Rattle.std.specs.Char.{is_ascii_digit}
use Rattle.std.specs.Str.Parse.{digits_value_after}
use Rattle.svf_words.proofs.numbers.digits_after.Given as goal

abbrev pub invariant-loop-byte : goal.invariant-loop-byte
invariant-loop-byte l =
    (digits_value_after 10 l.value (drop l.byte-index l.digits) ≡ digits_value_after 10 l.start l.digits)
    × (list_all is_ascii_digit (drop l.byte-index l.digits) ≡ true)
    × ((l.value + 1) * 10 ^ (length l.digits - l.byte-index) ≤ 10 ^ 18)
    × ((l.value + 1) * 10 ^ (length l.digits - l.byte-index) ≤ (l.start + 1) * 10 ^ length l.digits)
