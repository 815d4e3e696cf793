-- Digits, one place more, and numbers of few digits.
use Rattle.std.proofs.Common.{rules, ◌≡◌, ℕ, zero, suc, ◌+◌, ◌-◌, ◌*◌, ◌^◌, ◌<◌, ◌≤◌, Bool, true, false, ◌&&◌, ◌==◌, not, nat_le, List, [], ◌∷◌, length, take, get_or, refl, ap, ◌∙◌, arith}
use Rattle.std.specs.List.{list_all}
use Rattle.std.specs.Char.{is_ascii_digit, digit_value}
use Rattle.std.specs.Str.Parse.{digits_value}
use Rattle.std.proofs.lemmas.Bool.Decides.{nat_tests}
use Rattle.std.proofs.lemmas.Int.Digits.{digits_value_more}
use Rattle.std.proofs.lemmas.Str.Parse.{IsNumeralModel, digits_value-take-le, digits_value_short, numerals_by_value}
use Rattle.play_diagnosis.specs.LogLines.{begins_well, is_number}

pub and_true : (a b : Bool) → (a && b) ≡ true → (a ≡ true) × (b ≡ true)
and_true true b h = (refl, h)
and_true false b h = absurd cc

digit-in : (ds : List ℕ) (i : ℕ) → list_all is_ascii_digit ds ≡ true → i < length ds → is_ascii_digit (get_or ds i 0) ≡ true
digit-in [] i all h = absurd (omega arith)
digit-in (d ∷ ds) zero all h = (and_true (is_ascii_digit d) (list_all is_ascii_digit ds) all).0
digit-in (d ∷ ds) (suc i) all h = digit-in ds i (and_true (is_ascii_digit d) (list_all is_ascii_digit ds) all).1 (omega arith)

digit-low : (c : ℕ) → is_ascii_digit c ≡ true → 48 ≤ c
digit-low c h = grind (arith, nat_tests)

digit-high : (c : ℕ) → is_ascii_digit c ≡ true → c ≤ 57
digit-high c h = grind (arith, nat_tests)

digit-is : (c : ℕ) → 48 ≤ c → c ≤ 57 → digit_value c ≡ c - 48
digit-is c low high = grind (arith, nat_tests)

pub one_more : (ds : List ℕ) (i : ℕ) → list_all is_ascii_digit ds ≡ true → i < length ds → digits_value 10 (take (i + 1) ds) ≡ digits_value 10 (take i ds) * 10 + (get_or ds i 0 - 48)
one_more ds i all h =
    let is = digit-in ds i all h in
    digits_value_more 10 ds i h ∙ ap (λ d. digits_value 10 (take i ds) * 10 + d) (digit-is (get_or ds i 0) (digit-low (get_or ds i 0) is) (digit-high (get_or ds i 0) is))

own : IsNumeralModel (λ ds. list_all is_ascii_digit ds ≡ true) (digits_value 10)
own = numerals_by_value (λ ds. list_all is_ascii_digit ds ≡ true) (search rules)

-- the first digits of a number of at most 18
pub few_small : (ds : List ℕ) (i : ℕ) → list_all is_ascii_digit ds ≡ true → length ds ≤ 18 → digits_value 10 (take i ds) < 10 ^ 18
few_small ds i all few =
    let less = digits_value-take-le 10 ds i (omega arith) in
    let short : digits_value 10 ds < 10 ^ 18 = digits_value_short own ds 18 all few in
    omega (arith, less, short)

pub number_parts : (w : List ℕ) → is_number w ≡ true → (list_all is_ascii_digit w ≡ true) × (length w ≤ 18)
number_parts w is =
    let one = and_true (not (length w == 0)) (list_all is_ascii_digit w && (nat_le (length w) 18 && begins_well w)) is in
    let two = and_true (list_all is_ascii_digit w) (nat_le (length w) 18 && begins_well w) one.1 in
    let three = and_true (nat_le (length w) 18) (begins_well w) two.1 in
    (two.0, small three.0)
  where
    small : nat_le (length w) 18 ≡ true → length w ≤ 18
    small h = grind (arith, nat_tests)
