use Rattle.std.proofs.Common.{◌≡◌, ◌≤◌, true, min, drop}
use Rattle.std.specs.List.{list_all}
use Rattle.std.specs.Char.{is_ascii_digit}
use Rattle.std.specs.Str.Parse.{digits_value, digits_value_after}
use Rattle.svf_words.proofs.numbers.capped_value.Given as goal

abbrev pub invariant-loop-byte : goal.invariant-loop-byte
invariant-loop-byte l =
    (min 19 (digits_value_after 10 l.value (drop l.byte-index l.digits)) ≡ min 19 (digits_value 10 l.digits))
    × (list_all is_ascii_digit (drop l.byte-index l.digits) ≡ true)
    × (l.value ≤ 19)
