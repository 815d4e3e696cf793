-- Numbers as units of 10 ^ -36, and periods.
use Rattle.std.proofs.Common.{◌≡◌, ℕ, ◌+◌, ◌-◌, ◌*◌, ◌/◌, ◌%◌, ◌^◌, ◌<◌, ◌≤◌, true, false, nat_eq, nat_lt, min, if◌then◌else◌, Some, List, ◌++◌, [], ◌∷◌, length, Result, Ok, Err, refl, sym, ap, subst, ◌∙◌, arith, ⊎_elim}
use Rattle.std.proofs.str.Laws.{order}
use Rattle.std.specs.Int.{div_ceil}
use Rattle.std.specs.Char.{digit_value}
use Rattle.std.specs.Str.Parse.{digits_value, digits_value_after}
use Rattle.std.proofs.Math.Nat.{mul-le-mul_right, mul-le-mul, mul-mod_left, mul-div_cancel}
use Rattle.std.proofs.lemmas.Nat.{pow-add, mod-mul-add}
use Rattle.std.proofs.lemmas.Grind.{div_ceil_times}
use Rattle.std.proofs.lemmas.Bool.Decides.{nat_tests}
use Rattle.svf_words.specs.declared.fault.Code.{Code}
use Rattle.svf_words.specs.declared.fault.Code.TheVariants as code
use Rattle.svf_words.specs.Numbers.{period_of, time_of, count_of, valued, Numeral, numeral_of, numeral_value, number_value}
use Rattle.svf_words.specs.Words.{Word}
use Rattle.svf_words.proofs.Digits.{pow_le, is_not}

-- the one number that rounds a fraction up
rounds_up : (a b q : ℕ) → 0 < b → a ≤ q * b → q * b < a + b → div_ceil a b ≡ q
rounds_up a b q positive low high =
    let r = div_ceil a b in
    let times : (a ≤ r * b) × (r * b < a + b) = div_ceil_times a b positive in
    ⊎_elim
    (λ less. let more : (r + 1) * b ≤ q * b = mul-le-mul_right b (omega arith) in absurd (omega (arith, more, times.0, high)))
    (λ le. ⊎_elim (λ less. let more : (q + 1) * b ≤ r * b = mul-le-mul_right b (omega arith) in absurd (omega (arith, more, times.1, low))) (λ ge. omega arith) (order q r))
    (order r q)

positive_product : (m p : ℕ) → 0 < m → 0 < p → 0 < m * p
positive_product m p h k = omega (arith, mul-le-mul {n₁ = 1} {m₁ = 1} {n₂ = m} {m₂ = p} h k)

pub power_positive : (z : ℕ) → 0 < 10 ^ z
power_positive z = omega (arith, pow_le 0 z (omega arith))

-- so many zeros that a period is 1
one_ps : (m z : ℕ) → 0 < m → 48 ≤ z → div_ceil (10 ^ 48) (m * 10 ^ z) ≡ 1
one_ps m z some many =
    let large : 10 ^ 48 ≤ 10 ^ z = pow_le 48 z many in
    let product : 10 ^ z ≤ m * 10 ^ z = omega (arith, mul-le-mul_right {m = 1} {n = m} (10 ^ z) some) in
    rounds_up (10 ^ 48) (m * 10 ^ z) 1 (omega arith) (omega arith) (omega arith)

-- zeros cancel
fewer_zeros : (m z : ℕ) → 0 < m → z ≤ 48 → div_ceil (10 ^ 48) (m * 10 ^ z) ≡ div_ceil (10 ^ (48 - z)) m
fewer_zeros m z some few =
    let a = 10 ^ (48 - z) in
    let p = 10 ^ z in
    let r = div_ceil a m in
    let back : 48 - z + z ≡ 48 = omega arith in
    let whole : a * p ≡ 10 ^ 48 = sym (pow-add 10 (48 - z) z) ∙ ap (λ (k : ℕ). 10 ^ k) back in
    let times : (a ≤ r * m) × (r * m < a + m) = div_ceil_times a m some in
    let low : a * p ≤ (r * m) * p = mul-le-mul_right p times.0 in
    let high : (r * m + 1) * p ≤ (a + m) * p = mul-le-mul_right p (omega (arith, times.1)) in
    let positive : 0 < p = power_positive z in
    let same : r * (m * p) ≡ (r * m) * p = grind arith in
    rounds_up (10 ^ 48) (m * p) r (positive_product m p some positive) (omega (arith, low, whole, same)) (omega (arith, high, whole, same, positive))

-- so few zeros that a period is above the limit
long_period : (m z : ℕ) → 0 < m → m < 10 ^ 18 → z ≤ 11 → 10 ^ 18 < div_ceil (10 ^ 48) (m * 10 ^ z)
long_period m z some small few =
    let b = m * 10 ^ z in
    let r = div_ceil (10 ^ 48) b in
    let power : 10 ^ z ≤ 10 ^ 11 = pow_le z 11 few in
    let bound : b ≤ 10 ^ 18 * 10 ^ 11 = mul-le-mul {n₁ = m} {m₁ = 10 ^ z} {n₂ = 10 ^ 18} {m₂ = 10 ^ 11} (omega arith) power in
    let times : (10 ^ 48 ≤ r * b) × (r * b < 10 ^ 48 + b) = div_ceil_times (10 ^ 48) b (positive_product m (10 ^ z) some (power_positive z)) in
    ⊎_elim (λ above. above) (λ within. let product : r * b ≤ 10 ^ 18 * (10 ^ 18 * 10 ^ 11) = mul-le-mul within bound in absurd (omega (arith, product, times.0))) (order (10 ^ 18) r)

nonzero : (n : ℕ) → 0 < n → nat_eq n 0 ≡ false
nonzero n h = grind (arith, nat_tests)

is_above : (a b : ℕ) → a < b → nat_lt a b ≡ true
is_above a b h = grind (arith, nat_tests)

is_within : (a b : ℕ) → b ≤ a → nat_lt a b ≡ false
is_within a b h = grind (arith, nat_tests)

module _ (value : Result ℕ Code) (m z : ℕ) (is : value ≡ Ok (m * 10 ^ z)) where
  pub no_frequency : m ≡ 0 → Err code.BadNumber ≡ valued period_of value
  no_frequency nothing = let e : value ≡ Ok 0 = is ∙ ap (λ (k : ℕ). Ok (k * 10 ^ z)) nothing ∙ ap (λ (k : ℕ). Ok k) (omega arith) in sym (ap (valued period_of) e)

  period_large : 0 < m → 10 ^ 18 < div_ceil (10 ^ 48) (m * 10 ^ z) → valued period_of value ≡ Err code.TooLarge
  period_large some large = ap (valued period_of) is ∙ rw (nonzero (m * 10 ^ z) (positive_product m (10 ^ z) some (power_positive z)), is_above (10 ^ 18) (div_ceil (10 ^ 48) (m * 10 ^ z)) large) refl

  period_fits : (q : ℕ) → 0 < m → div_ceil (10 ^ 48) (m * 10 ^ z) ≡ q → q ≤ 10 ^ 18 → valued period_of value ≡ Ok q
  period_fits q some rounds fits =
      ap (valued period_of) is ∙ rw (nonzero (m * 10 ^ z) (positive_product m (10 ^ z) some (power_positive z)), rounds, is_within (10 ^ 18) q fits) refl

  pub least_period : 0 < m → 48 ≤ z → Ok 1 ≡ valued period_of value
  least_period some many = sym (period_fits 1 some (one_ps m z some many) (omega arith))

  pub too_long : 0 < m → m < 10 ^ 18 → z ≤ 11 → Err code.TooLarge ≡ valued period_of value
  too_long some small few = sym (period_large some (long_period m z some small few))

  pub middle_fits : (q : ℕ) → 0 < m → z ≤ 48 → q ≡ div_ceil (10 ^ (48 - z)) m → q ≤ 10 ^ 18 → Ok q ≡ valued period_of value
  middle_fits q some few rounds fits = sym (period_fits q some (fewer_zeros m z some few ∙ sym rounds) fits)

  pub middle_large : (q : ℕ) → 0 < m → z ≤ 48 → q ≡ div_ceil (10 ^ (48 - z)) m → 10 ^ 18 < q → Err code.TooLarge ≡ valued period_of value
  middle_large q some few rounds large = sym (period_large some (subst (λ (k : ℕ). 10 ^ 18 < k) (rounds ∙ sym (fewer_zeros m z some few)) large))

-- ---- a mantissa of two parts

pub value-append : (n : ℕ) (xs ys : List ℕ) → digits_value_after 10 n (xs ++ ys) ≡ digits_value_after 10 (digits_value_after 10 n xs) ys
value-append n [] ys = refl
value-append n (x ∷ xs) ys = value-append (n * 10 + digit_value x) xs ys

pub room_after : (v a b : ℕ) → v + 1 ≤ (0 + 1) * 10 ^ a → a + b ≤ 18 → (v + 1) * 10 ^ b ≤ 10 ^ 18
room_after v a b bound fits =
    let product : (v + 1) * 10 ^ b ≤ 10 ^ a * 10 ^ b = mul-le-mul_right (10 ^ b) (omega arith) in
    let sum : 10 ^ (a + b) ≡ 10 ^ a * 10 ^ b = pow-add 10 a b in
    omega (arith, product, sum, pow_le (a + b) 18 fits)

-- the value of a number that is written within the limits
pub number_is : (w : Word) (n : Numeral) (v e m : ℕ) → Some n ≡ numeral_of w → length n.whole + length n.fraction ≤ 18 → e ≡ min 19 (digits_value 10 n.exponent) → e ≤ 18
    → v ≡ digits_value_after 10 0 n.whole → m ≡ digits_value_after 10 v n.fraction → number_value w ≡ Ok (m * 10 ^ (if n.negative then 36 - length n.fraction - e else 36 - length n.fraction + e))
unfolding number_value
number_is w n v e m written short exponent small whole mantissa =
    let exact : digits_value 10 n.exponent ≡ e = omega (arith, exponent, small) in
    let joined : digits_value_after 10 0 (n.whole ++ n.fraction) ≡ m = value-append 0 n.whole n.fraction ∙ ap (λ (k : ℕ). digits_value_after 10 k n.fraction) (sym whole) ∙ sym mantissa in
    ap numeral_value (sym written) ∙ rw (exact, is_within 18 (length n.whole + length n.fraction) short, is_within 18 e small, joined) refl

-- ---- counts and times

pub pow_small : (z : ℕ) → z ≤ 36 → 10 ^ z < 340282366920938463463374607431768211456
pow_small z le = omega (arith, pow_le z 36 le)

-- zeros cancel
div_ceil-cancel : (a b p : ℕ) → 0 < b → 0 < p → div_ceil (a * p) (b * p) ≡ div_ceil a b
div_ceil-cancel a b p some positive =
    let r = div_ceil a b in
    let times : (a ≤ r * b) × (r * b < a + b) = div_ceil_times a b some in
    let low : a * p ≤ (r * b) * p = mul-le-mul_right p times.0 in
    let high : (r * b + 1) * p ≤ (a + b) * p = mul-le-mul_right p (omega (arith, times.1)) in
    let same : r * (b * p) ≡ (r * b) * p = grind arith in
    rounds_up (a * p) (b * p) r (positive_product b p some positive) (omega (arith, low, same)) (omega (arith, high, same, positive))

div_ceil-whole : (q b : ℕ) → 0 < b → div_ceil (q * b) b ≡ q
div_ceil-whole q b positive = rounds_up (q * b) b q positive (omega arith) (omega arith)

split_power : (z k n : ℕ) → k + z ≡ n → 10 ^ k * 10 ^ z ≡ 10 ^ n
split_power z k n e = sym (pow-add 10 k z) ∙ ap (λ (j : ℕ). 10 ^ j) e

pub time_up : (m z : ℕ) → 24 ≤ z → m * 10 ^ (z - 24) ≡ div_ceil (m * 10 ^ z) (10 ^ 24)
time_up m z many =
    let p = 10 ^ (z - 24) in
    let whole : 10 ^ (z - 24) * 10 ^ 24 ≡ 10 ^ z = split_power 24 (z - 24) z (omega arith) in
    let same : m * 10 ^ z ≡ (m * p) * 10 ^ 24 = omega (arith, ap (λ (k : ℕ). m * k) (sym whole), regroup m p (10 ^ 24)) in
    sym (ap (λ (a : ℕ). div_ceil a (10 ^ 24)) same ∙ div_ceil-whole (m * p) (10 ^ 24) (omega arith))
  where
    regroup : (a b c : ℕ) → a * (b * c) ≡ (a * b) * c
    regroup a b c = grind arith

pub time_down : (m z d : ℕ) → z ≤ 24 → d ≡ 10 ^ (24 - z) → div_ceil m d ≡ div_ceil (m * 10 ^ z) (10 ^ 24)
time_down m z d few is =
    let whole : 10 ^ (24 - z) * 10 ^ z ≡ 10 ^ 24 = split_power z (24 - z) 24 (omega arith) in
    ap (div_ceil m) is ∙ sym (ap (div_ceil (m * 10 ^ z)) (sym whole) ∙ div_ceil-cancel m (10 ^ (24 - z)) (10 ^ z) (power_positive (24 - z)) (power_positive z))

pub time_large : (m z : ℕ) → 0 < m → 42 < z → 10 ^ 18 < div_ceil (m * 10 ^ z) (10 ^ 24)
time_large m z some many =
    let r = div_ceil (m * 10 ^ z) (10 ^ 24) in
    let power : 10 ^ 43 ≤ 10 ^ z = pow_le 43 z (omega arith) in
    let product : 10 ^ z ≤ m * 10 ^ z = omega (arith, mul-le-mul_right {m = 1} {n = m} (10 ^ z) some) in
    let times : (m * 10 ^ z ≤ r * 10 ^ 24) × (r * 10 ^ 24 < m * 10 ^ z + 10 ^ 24) = div_ceil_times (m * 10 ^ z) (10 ^ 24) (omega arith) in
    omega (arith, times.0, power, product)

module _ (value : Result ℕ Code) (m z : ℕ) (is : value ≡ Ok (m * 10 ^ z)) where
  pub long_time : 0 < m → 42 < z → Err code.TooLarge ≡ valued time_of value
  long_time some many = sym (ap (valued time_of) is ∙ rw (is_above (10 ^ 18) (div_ceil (m * 10 ^ z) (10 ^ 24)) (time_large m z some many)) refl)

  pub time_above : (t : ℕ) → t ≡ div_ceil (m * 10 ^ z) (10 ^ 24) → 10 ^ 18 < t → Err code.TooLarge ≡ valued time_of value
  time_above t rounds large = sym (ap (valued time_of) is ∙ rw (← rounds, is_above (10 ^ 18) t large) refl)

  pub time_within : (t : ℕ) → t ≡ div_ceil (m * 10 ^ z) (10 ^ 24) → t ≤ 10 ^ 18 → Ok t ≡ valued time_of value
  time_within t rounds fits = sym (ap (valued time_of) is ∙ rw (← rounds, is_within (10 ^ 18) t fits) refl)

  pub not_whole : ((m * 10 ^ z) % 10 ^ 36 ≡ 0 → ⊥) → Err code.BadNumber ≡ valued count_of value
  not_whole other = sym (ap (valued count_of) is ∙ rw (is_not ((m * 10 ^ z) % 10 ^ 36) 0 other) refl)

  pub count_above : (n : ℕ) → m * 10 ^ z ≡ n * 10 ^ 36 → 4294967295 < n → Err code.TooLarge ≡ valued count_of value
  count_above n whole large =
      sym (ap (valued count_of) (is ∙ ap (λ (k : ℕ). Ok k) whole) ∙ rw (mul-mod_left n (10 ^ 36), mul-div_cancel n {n = 10 ^ 36} (omega arith), is_above 4294967295 n large) refl)

  pub count_within : (n : ℕ) → m * 10 ^ z ≡ n * 10 ^ 36 → n ≤ 4294967295 → Ok n ≡ valued count_of value
  count_within n whole fits =
      sym (ap (valued count_of) (is ∙ ap (λ (k : ℕ). Ok k) whole) ∙ rw (mul-mod_left n (10 ^ 36), mul-div_cancel n {n = 10 ^ 36} (omega arith), is_within 4294967295 n fits) refl)

pub whole_up : (m z : ℕ) → 36 ≤ z → m * 10 ^ z ≡ (m * 10 ^ (z - 36)) * 10 ^ 36
whole_up m z many = ap (λ (k : ℕ). m * k) (sym (split_power 36 (z - 36) z (omega arith))) ∙ grind arith

-- what a quotient and a rest are of units
quotient_units : (m d p q r : ℕ) → m ≡ d * q + r → m * p ≡ q * (d * p) + r * p
quotient_units m d p q r e = ap (λ (k : ℕ). k * p) e ∙ grind arith

pub whole_down : (m z d : ℕ) → z < 36 → d ≡ 10 ^ (36 - z) → m % d ≡ 0 → m * 10 ^ z ≡ (m / d) * 10 ^ 36
whole_down m z d few is none =
    let whole : d * 10 ^ z ≡ 10 ^ 36 = ap (λ (k : ℕ). k * 10 ^ z) is ∙ split_power z (36 - z) 36 (omega arith) in
    let parts : m ≡ d * (m / d) + m % d = omega arith in
    quotient_units m d (10 ^ z) (m / d) (m % d) parts ∙ ap (λ (k : ℕ). (m / d) * (d * 10 ^ z) + k * 10 ^ z) none ∙ ap (λ (k : ℕ). (m / d) * k + 0 * 10 ^ z) whole ∙ omega arith

pub broken_down : (m z d : ℕ) → z < 36 → d ≡ 10 ^ (36 - z) → (m % d ≡ 0 → ⊥) → (m * 10 ^ z) % 10 ^ 36 ≡ 0 → ⊥
broken_down m z d few is some none =
    let p = 10 ^ z in
    let whole : d * p ≡ 10 ^ 36 = ap (λ (k : ℕ). k * 10 ^ z) is ∙ split_power z (36 - z) 36 (omega arith) in
    let positive : 0 < d = subst (λ (k : ℕ). 0 < k) (sym is) (power_positive (36 - z)) in
    let parts : m ≡ d * (m / d) + m % d = omega arith in
    let less : (m % d + 1) * p ≤ d * p = mul-le-mul_right p (omega (arith, positive)) in
    let small : m % d * p < 10 ^ 36 = omega (arith, less, whole, power_positive z) in
    let units : m * p ≡ (m / d) * 10 ^ 36 + m % d * p = quotient_units m d p (m / d) (m % d) parts ∙ ap (λ (k : ℕ). (m / d) * k + m % d * p) whole in
    let rest : (m * p) % 10 ^ 36 ≡ m % d * p = ap (λ (k : ℕ). k % 10 ^ 36) units ∙ mod-mul-add (m / d) (10 ^ 36) (m % d * p) small in
    let product : 0 < m % d * p = positive_product (m % d) p (omega (arith, some)) (power_positive z) in
    omega (arith, rest, none, product)
