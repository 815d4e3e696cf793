-- What is said within some limits and lies within others is said within those too.
use Rattle.std.proofs.Common.{◌≡◌, ℕ, ◌≤◌, ◌%◌, ◌/◌, ◌^◌, Bool, true, false, cond, ◌&&◌, length, nat_lt, nat_le, Result, Ok, Err, refl, ap, arith}
use Rattle.std.specs.Prelude.{◌==◌}
use Rattle.std.specs.Int.{div_ceil}
use Rattle.std.specs.List.{list_all}
use Rattle.std.specs.Char.{is_ascii_digit}
use Rattle.std.specs.Str.Parse.{digits_value}
use Rattle.std.proofs.lemmas.Bool.Decides.{nat_tests}
use Rattle.jt_limits.specs.Limits.{digit_limit}
use Rattle.svf_words.specs.declared.fault.Code.{Code}
use Rattle.svf_words.specs.declared.fault.Code.TheVariants as code
use Rattle.svf_words.specs.Within.{PeriodsAreLimited, TimesAreLimited, CountsAreLimited, LengthsAreLimited}
use Rattle.svf_words.specs.Numbers.{period_within, time_within, count_within, valued, number_value}

abbrev told : ℕ → Result ℕ Code
told n = Ok n

abbrev capped : Bool → ℕ → Result ℕ Code
capped large n = cond large (Err code.TooLarge) (Ok n)

-- a number that is not above the limit
record Small (k n most : ℕ) : Type 0 where
  same : k ≡ n
  few : n ≤ most

small_by : (large : Bool) (k n most : ℕ) → nat_lt most k ≡ large → capped large k ≡ Ok n → Small k n most
small_by true k n most is e = absurd cc
small_by false k n most is e =
    let same : k ≡ n = cc in
    let few : k ≤ most = grind (arith, nat_tests, is) in
    record { same = same; few = omega (arith, same, few) }

told_again : (k n most : ℕ) → k ≡ n → n ≤ most → capped (nat_lt most k) k ≡ Ok n
told_again k n most same few =
    let low : k ≤ most = omega (arith, same, few) in
    let not_large : nat_lt most k ≡ false = grind (arith, nat_tests, low) in
    rw not_large (ap told same)

-- ---- periods, times and counts

period_by : (none : Bool) (k n most : ℕ) → cond none (Err code.BadNumber) (capped (nat_lt most k) k) ≡ Ok n → (none ≡ false) × Small k n most
period_by true k n most e = absurd cc
period_by false k n most e = (refl, small_by (nat_lt most k) k n most refl e)

count_by : (whole : Bool) (k n most : ℕ) → cond whole (capped (nat_lt most k) k) (Err code.BadNumber) ≡ Ok n → (whole ≡ true) × Small k n most
count_by false k n most e = absurd cc
count_by true k n most e = (refl, small_by (nat_lt most k) k n most refl e)

valued_bound : (says : ℕ → Result ℕ Code) (r : Result ℕ Code) (n most : ℕ) → ((units : ℕ) → says units ≡ Ok n → n ≤ most) → valued says r ≡ Ok n → n ≤ most
valued_bound says (Err c) n most h e = absurd cc
valued_bound says (Ok units) n most h e = h units e

valued_kept : (says other : ℕ → Result ℕ Code) (r : Result ℕ Code) (n : ℕ) → ((units : ℕ) → says units ≡ Ok n → other units ≡ Ok n) → valued says r ≡ Ok n → valued other r ≡ Ok n
valued_kept says other (Err c) n h e = absurd cc
valued_kept says other (Ok units) n h e = h units e

pub periods_limited : PeriodsAreLimited
periods_limited = record {
  bound = λ l w n e. valued_bound (period_within l) (number_value w) n l.picoseconds
      (λ units h. (period_by (units == 0) (div_ceil (10 ^ 48) units) n l.picoseconds h).1.few) e;
  kept = λ a b w n e few. valued_kept (period_within b) (period_within a) (number_value w) n
      (λ units h.
      let parts = period_by (units == 0) (div_ceil (10 ^ 48) units) n b.picoseconds h in
      rw parts.0 (told_again (div_ceil (10 ^ 48) units) n a.picoseconds parts.1.same few)) e;
}

pub times_limited : TimesAreLimited
times_limited = record {
  bound = λ l w n e. valued_bound (time_within l) (number_value w) n l.picoseconds
      (λ units h. (small_by (nat_lt l.picoseconds (div_ceil units (10 ^ 24))) (div_ceil units (10 ^ 24)) n l.picoseconds refl h).few) e;
  kept = λ a b w n e few. valued_kept (time_within b) (time_within a) (number_value w) n
      (λ units h.
      let small = small_by (nat_lt b.picoseconds (div_ceil units (10 ^ 24))) (div_ceil units (10 ^ 24)) n b.picoseconds refl h in
      told_again (div_ceil units (10 ^ 24)) n a.picoseconds small.same few) e;
}

pub counts_limited : CountsAreLimited
counts_limited = record {
  bound = λ l w n e. valued_bound (count_within l) (number_value w) n l.cycles
      (λ units h. (count_by (units % 10 ^ 36 == 0) (units / 10 ^ 36) n l.cycles h).1.few) e;
  kept = λ a b w n e few. valued_kept (count_within b) (count_within a) (number_value w) n
      (λ units h.
      let parts = count_by (units % 10 ^ 36 == 0) (units / 10 ^ 36) n b.cycles h in
      rw parts.0 (told_again (units / 10 ^ 36) n a.cycles parts.1.same few)) e;
}

-- ---- lengths

abbrev length_told : Bool → Bool → Bool → ℕ → Result ℕ Code
length_told digits short small v = cond digits (cond (short && small) (Ok v) (Err code.TooLarge)) (Err code.BadNumber)

length_by : (digits short small : Bool) (v n most : ℕ) → nat_le v most ≡ small → length_told digits short small v ≡ Ok n
    → (digits ≡ true) × (short ≡ true) × Small v n most
length_by true true true v n most is e =
    let same : v ≡ n = cc in
    let few : v ≤ most = grind (arith, nat_tests, is) in
    (refl, refl, record { same = same; few = omega (arith, same, few) })
length_by true true false v n most is e = absurd cc
length_by true false small v n most is e = absurd cc
length_by false short small v n most is e = absurd cc

length_again : (digits short : Bool) (v n most : ℕ) → digits ≡ true → short ≡ true → v ≡ n → n ≤ most → length_told digits short (nat_le v most) v ≡ Ok n
length_again digits short v n most d s same few =
    let low : v ≤ most = omega (arith, same, few) in
    let small : nat_le v most ≡ true = grind (arith, nat_tests, low) in
    rw (d, s, small) (ap told same)

pub lengths_limited : LengthsAreLimited
lengths_limited = record {
  bound = λ l w n e. (length_by (list_all is_ascii_digit w) (nat_le (length w) digit_limit) (nat_le (digits_value 10 w) l.scan_bits) (digits_value 10 w) n l.scan_bits refl e).2.few;
  kept = λ a b w n e few.
      let parts = length_by (list_all is_ascii_digit w) (nat_le (length w) digit_limit) (nat_le (digits_value 10 w) b.scan_bits) (digits_value 10 w) n b.scan_bits refl e in
      length_again (list_all is_ascii_digit w) (nat_le (length w) digit_limit) (digits_value 10 w) n a.scan_bits parts.0 parts.1 parts.2.same few;
}
