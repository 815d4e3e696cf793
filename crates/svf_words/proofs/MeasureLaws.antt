-- Periods and times are least, counts whole.
use Rattle.std.proofs.Common.{◌≡◌, ◌≢◌, ℕ, ◌+◌, ◌*◌, ◌/◌, ◌%◌, ◌^◌, ◌<◌, ◌≤◌, Bool, true, false, nat_lt, if◌then◌else◌, Ok, Err, MatchResult, refl, arith, ⊎_elim}
use Rattle.std.specs.Prelude.{◌==◌}
use Rattle.std.proofs.str.Laws.{order}
use Rattle.std.specs.Int.{div_ceil}
use Rattle.std.proofs.Math.Nat.{mul-le-mul_right}
use Rattle.std.proofs.lemmas.Grind.{div_ceil_times}
use Rattle.std.proofs.lemmas.Bool.Decides.{nat_tests}
use Rattle.svf_words.specs.declared.fault.Code.TheVariants as code
use Rattle.svf_words.specs.Measures.{CountsAreWhole, HasNoCount, HasNoPeriod, HasNoTime, IsCount, IsLeast, IsPeriod, IsTime, PeriodsAreLeast, TimesAreLeast}

-- a quotient rounded up is the least number whose product is not below
ceil-least : (a b : ℕ) → 0 < b → IsLeast (λ n. a ≤ n * b) (div_ceil a b)
ceil-least a b positive =
    let r = div_ceil a b in
    let times : (a ≤ r * b) × (r * b < a + b) = div_ceil_times a b positive in
    record {
      holds = times.0;
      least = λ m above. ⊎_elim
          (λ less. let more : (m + 1) * b ≤ r * b = mul-le-mul_right b (omega arith) in absurd (omega (arith, more, times.1, above)))
          (λ le. le)
          (order m r);
    }

-- so much above a bound, its product is above the bound's
above : (a b limit : ℕ) → 0 < b → limit < div_ceil a b → limit * b < a
above a b limit positive large =
    let times : (a ≤ div_ceil a b * b) × (div_ceil a b * b < a + b) = div_ceil_times a b positive in
    let more : (limit + 1) * b ≤ div_ceil a b * b = mul-le-mul_right b (omega (arith, large)) in
    omega (arith, more, times.1)

above-none : (n : ℕ) → (n == 0) ≡ false → 0 < n
above-none n is = grind (arith, nat_tests)

pub periods_are_least : PeriodsAreLeast
periods_are_least units = by (units == 0) (nat_lt (10 ^ 18) (div_ceil (10 ^ 48) units)) refl refl
  where
    by : (zero large : Bool) → (units == 0) ≡ zero → nat_lt (10 ^ 18) (div_ceil (10 ^ 48) units) ≡ large
        → MatchResult (if zero then Err code.BadNumber else (if large then Err code.TooLarge else Ok (div_ceil (10 ^ 48) units))) (IsPeriod units) (HasNoPeriod units)
    by true large none e = grind (arith, nat_tests, none)
    by false true some e =
        let much : 10 ^ 18 < div_ceil (10 ^ 48) units = grind (arith, nat_tests, e) in
        let positive = above-none units some in
        (λ none. absurd (omega (arith, none, positive)), above (10 ^ 48) units (10 ^ 18) positive much)
    by false false some e =
        (ceil-least (10 ^ 48) units (above-none units some), grind (arith, nat_tests, e))

pub times_are_least : TimesAreLeast
times_are_least units = by (nat_lt (10 ^ 18) (div_ceil units (10 ^ 24))) refl
  where
    by : (large : Bool) → nat_lt (10 ^ 18) (div_ceil units (10 ^ 24)) ≡ large
        → MatchResult (if large then Err code.TooLarge else Ok (div_ceil units (10 ^ 24))) (IsTime units) (HasNoTime units)
    by true e =
        let much : 10 ^ 18 < div_ceil units (10 ^ 24) = grind (arith, nat_tests, e) in
        omega (arith, above units (10 ^ 24) (10 ^ 18) (omega arith) much)
    by false e = (ceil-least units (10 ^ 24) (omega arith), grind (arith, nat_tests, e))

pub counts_are_whole : CountsAreWhole
counts_are_whole units = by (units % 10 ^ 36 == 0) (nat_lt 4294967295 (units / 10 ^ 36)) refl refl
  where
    by : (whole large : Bool) → (units % 10 ^ 36 == 0) ≡ whole → nat_lt 4294967295 (units / 10 ^ 36) ≡ large
        → MatchResult (if whole then (if large then Err code.TooLarge else Ok (units / 10 ^ 36)) else Err code.BadNumber) (IsCount units) (HasNoCount units)
    by false large not e =
        let some : units % 10 ^ 36 ≢ 0 = grind (arith, nat_tests, not) in
        λ n is. some (omega (arith, is))
    by true true is e =
        let none : units % 10 ^ 36 ≡ 0 = grind (arith, nat_tests, is) in
        let much : 4294967295 < units / 10 ^ 36 = grind (arith, nat_tests, e) in
        (units / 10 ^ 36, omega (arith, none), omega (arith, much))
    by true false is e =
        let none : units % 10 ^ 36 ≡ 0 = grind (arith, nat_tests, is) in
        let little : units / 10 ^ 36 ≤ 4294967295 = grind (arith, nat_tests, e) in
        (omega (arith, none), omega (arith, little))
