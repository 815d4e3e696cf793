-- Numbers with a point and an exponent, as exact fractions.
use Rattle.std.specs.Prelude.{ℕ, ◌+◌, ◌-◌, ◌*◌, ◌^◌, Bool, true, false, ◌&&◌, ◌||◌, ◌==◌, nat_lt, nat_le, ◌/◌, ◌%◌}
use Rattle.std.specs.Prelude.{if◌then◌else◌, List, [], ◌∷◌, ◌++◌, length, take, drop, Option, Some, None, option_map}
use Rattle.std.specs.Prelude.{Result, Ok, Err}
use Rattle.std.specs.List.{list_all, prefix_len}
use Rattle.std.specs.Char.{is_ascii_digit}
use Rattle.std.specs.Str.Parse.{digits_value}
use Rattle.std.specs.Int.{div_ceil}
use Rattle.jt_limits.specs.declared.Limits.{Limits}
use Rattle.jt_limits.specs.Limits.{limits, digit_limit, exponent_limit}
use Rattle.svf_words.specs.declared.fault.Code.{Code}
use Rattle.svf_words.specs.declared.fault.Code.TheVariants as code
use Rattle.svf_words.specs.Words.{Word}

-- whole [. fraction] [E [sign] exponent], each of digits
pub record Numeral : Type 0 where
  pub whole : List ℕ
  pub fraction : List ℕ
  pub negative : Bool
  pub exponent : List ℕ

-- the digits at the front, and the rest
abbrev pub split_digits : List ℕ → List ℕ × List ℕ
split_digits text = (take (prefix_len is_ascii_digit text) text, drop (prefix_len is_ascii_digit text) text)

-- the digits behind a point, if there is one
abbrev pub split_fraction : List ℕ → List ℕ × List ℕ
split_fraction [] = ([], [])
split_fraction (c ∷ cs) = if c == 46 then split_digits cs else ([], c ∷ cs)

abbrev pub exponent_digits : Bool → List ℕ → Option (Bool × List ℕ)
exponent_digits negative ds = if nat_lt 0 (length ds) && list_all is_ascii_digit ds then Some (negative, ds) else None

abbrev pub signed_exponent : List ℕ → Option (Bool × List ℕ)
signed_exponent [] = None
signed_exponent (c ∷ cs) =
    if c == 45 then exponent_digits true cs else if c == 43 then exponent_digits false cs
    else exponent_digits false (c ∷ cs)

-- the exponent: none, or `E` or `e` before it
abbrev pub exponent_of : List ℕ → Option (Bool × List ℕ)
exponent_of [] = Some (false, [])
exponent_of (c ∷ cs) = if c == 69 || c == 101 then signed_exponent cs else None

unfoldable pub numeral_of : Word → Option Numeral
numeral_of w =
    let whole = split_digits w in
    let fraction = split_fraction whole.1 in
    if length whole.0 + length fraction.0 == 0 then None
    else option_map (λ e. record { whole = whole.0; fraction = fraction.0; negative = e.0; exponent = e.1 })
    (exponent_of fraction.1)

-- a number is told in units of 10 ^ -36, of which each number within the limits is a whole count
abbrev pub unit_power : ℕ
unit_power = 36

-- 1 itself; a picosecond, of a number that tells seconds; and 10 ^ 12 hertz, of which a period is a picosecond
abbrev pub whole_units : ℕ
whole_units = 10 ^ unit_power

abbrev pub picosecond_units : ℕ
picosecond_units = 10 ^ 24

abbrev pub terahertz_units : ℕ
terahertz_units = 10 ^ 48

-- the power of ten of the last mantissa digit, in those units
abbrev pub power_of : Numeral → ℕ
power_of n = if n.negative then unit_power - length n.fraction - digits_value 10 n.exponent
    else unit_power - length n.fraction + digits_value 10 n.exponent

abbrev pub units_of : Numeral → ℕ
units_of n = digits_value 10 (n.whole ++ n.fraction) * 10 ^ power_of n

-- the count of units, S5 or S15
abbrev pub numeral_value : Option Numeral → Result ℕ Code
numeral_value None = Err code.BadNumber
numeral_value (Some n) =
    if nat_lt digit_limit (length n.whole + length n.fraction) || nat_lt exponent_limit (digits_value 10 n.exponent)
    then Err code.TooLarge else Ok (units_of n)

unfoldable pub number_value : Word → Result ℕ Code
number_value w = numeral_value (numeral_of w)

-- a second, which is 10 ^ 12 ps, over the frequency, rounded up
abbrev pub period_within : Limits → ℕ → Result ℕ Code
period_within l units =
    if units == 0 then Err code.BadNumber
    else if nat_lt l.picoseconds (div_ceil terahertz_units units) then Err code.TooLarge
    else Ok (div_ceil terahertz_units units)

-- a time in picoseconds, rounded up
abbrev pub time_within : Limits → ℕ → Result ℕ Code
time_within l units =
    if nat_lt l.picoseconds (div_ceil units picosecond_units) then Err code.TooLarge
    else Ok (div_ceil units picosecond_units)

-- a count, which is whole
abbrev pub count_within : Limits → ℕ → Result ℕ Code
count_within l units =
    if units % whole_units == 0 then (if nat_lt l.cycles (units / whole_units) then Err code.TooLarge
    else Ok (units / whole_units)) else Err code.BadNumber

-- what a number of units says, if the number has a value
abbrev pub valued : (ℕ → Result ℕ Code) → Result ℕ Code → Result ℕ Code
valued says (Err c) = Err c
valued says (Ok units) = says units

abbrev pub period_says_within : Limits → Word → Result ℕ Code
period_says_within l w = valued (period_within l) (number_value w)

abbrev pub time_says_within : Limits → Word → Result ℕ Code
time_says_within l w = valued (time_within l) (number_value w)

abbrev pub count_says_within : Limits → Word → Result ℕ Code
count_says_within l w = valued (count_within l) (number_value w)

-- a length that has a value: digits alone, not too many
abbrev pub len_value : Word → Option ℕ
len_value w = if list_all is_ascii_digit w && nat_le (length w) digit_limit then Some (digits_value 10 w) else None

-- the length of a scan, S5 or S15
abbrev pub len_says_within : Limits → Word → Result ℕ Code
len_says_within l w =
    if list_all is_ascii_digit w
    then (if nat_le (length w) digit_limit && nat_le (digits_value 10 w) l.scan_bits then Ok (digits_value 10 w)
    else Err code.TooLarge)
    else Err code.BadNumber

-- ---- within the limits that stand

abbrev pub period_of : ℕ → Result ℕ Code
period_of units = period_within limits units

abbrev pub time_of : ℕ → Result ℕ Code
time_of units = time_within limits units

abbrev pub count_of : ℕ → Result ℕ Code
count_of units = count_within limits units

abbrev pub period_says : Word → Result ℕ Code
period_says w = period_says_within limits w

abbrev pub time_says : Word → Result ℕ Code
time_says w = time_says_within limits w

abbrev pub count_says : Word → Result ℕ Code
count_says w = count_says_within limits w

abbrev pub len_says : Word → Result ℕ Code
len_says w = len_says_within limits w
