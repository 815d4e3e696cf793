-- A number has one spelling without zeros before it, and the one with more digits is larger.
use Rattle.std.proofs.Common.{Less, Equal, Greater, ◌≡◌, ℕ, suc, ◌+◌, ◌-◌, ◌*◌, ◌<◌, ◌≤◌, Bool, true, false, cond, List, [], ◌∷◌, length, drop, refl, ap, sym, subst, ◌∙◌, inl, inr, arith}
use Rattle.std.specs.Prelude.{◌==◌}
use Rattle.std.specs.List.{list_all, prefix_len}
use Rattle.std.specs.Ordering.{nat_cmp}
use Rattle.std.specs.Cmp.{nat_cmp_is}
use Rattle.std.specs.Cmp.Lexicographic.{slice_cmp}
use Rattle.std.specs.Char.{is_ascii_digit, digit_value}
use Rattle.std.specs.Str.Parse.{digits_value, digits_value_after}
use Rattle.std.proofs.lemmas.Bool.{cases_order}
use Rattle.std.proofs.lemmas.Bool.Decides.{nat_tests}
use Rattle.bsdl_text.specs.Numbers.{significant}
use Rattle.bsdl_text.proofs.NumberLaws.{and_true, digit_low, digit_high, digit_is}

below_ten : (c : ℕ) → is_ascii_digit c ≡ true → digit_value c ≤ 9
below_ten c h = omega (arith, digit_is c (digit_low c h) (digit_high c h), digit_high c h)

same_digit : (x y : ℕ) → is_ascii_digit x ≡ true → is_ascii_digit y ≡ true → digit_value x ≡ digit_value y → x ≡ y
same_digit x y h k e =
    omega (arith, digit_is x (digit_low x h) (digit_high x h), digit_is y (digit_low y k) (digit_high y k), digit_low x h, digit_low y k)

not_zero : (c : ℕ) → is_ascii_digit c ≡ true → (c == 48) ≡ false → 0 < digit_value c
not_zero c h other = grind (arith, nat_tests, digit_is c (digit_low c h) (digit_high c h), digit_low c h)

-- after a smaller number, no more digits make a number that is larger
stays_below : (n m : ℕ) (xs ys : List ℕ) → n < m → length xs ≤ length ys → list_all is_ascii_digit xs ≡ true → digits_value_after 10 n xs < digits_value_after 10 m ys
stays_below n m [] [] less short all = less
stays_below n m [] (y ∷ ys) less short all = stays_below n (m * 10 + digit_value y) [] ys (omega arith) (omega arith) all
stays_below n m (x ∷ xs) [] less short all = absurd (omega arith)
stays_below n m (x ∷ xs) (y ∷ ys) less short all =
    let parts = and_true (is_ascii_digit x) (list_all is_ascii_digit xs) all in
    let small : digit_value x ≤ 9 = below_ten x parts.0 in
    stays_below (n * 10 + digit_value x) (m * 10 + digit_value y) xs ys (omega arith) (omega arith) parts.1

pub significant_value : (ds : List ℕ) → digits_value 10 (significant ds) ≡ digits_value 10 ds
significant_value [] = refl
significant_value (d ∷ ds) = by_test (d == 48) refl (significant_value ds)
  where
    by_test : (b : Bool) → (d == 48) ≡ b → digits_value 10 (significant ds) ≡ digits_value 10 ds → digits_value 10 (cond b (significant ds) (d ∷ ds)) ≡ digits_value 10 (d ∷ ds)
    by_test true is rest =
        let zero_is : d ≡ 48 = grind (arith, nat_tests) in
        rest ∙ rw zero_is refl
    by_test false is rest = refl

pub significant_digits : (ds : List ℕ) → list_all is_ascii_digit ds ≡ true → list_all is_ascii_digit (significant ds) ≡ true
significant_digits [] all = refl
significant_digits (d ∷ ds) all = by_test (d == 48) (significant_digits ds (and_true (is_ascii_digit d) (list_all is_ascii_digit ds) all).1)
  where
    by_test : (b : Bool) → list_all is_ascii_digit (significant ds) ≡ true → list_all is_ascii_digit (cond b (significant ds) (d ∷ ds)) ≡ true
    by_test true rest = rest
    by_test false rest = all

length_le : (ds : List ℕ) → length (significant ds) ≤ length ds
length_le [] = omega arith
length_le (d ∷ ds) = by_test (d == 48) (length_le ds)
  where
    by_test : (b : Bool) → length (significant ds) ≤ length ds → length (cond b (significant ds) (d ∷ ds)) ≤ length (d ∷ ds)
    by_test true rest = omega arith
    by_test false rest = omega arith

pub significant_again : (ds : List ℕ) → significant (significant ds) ≡ significant ds
significant_again [] = refl
significant_again (d ∷ ds) = by_test (d == 48) refl (significant_again ds)
  where
    by_test : (b : Bool) → (d == 48) ≡ b → significant (significant ds) ≡ significant ds → significant (cond b (significant ds) (d ∷ ds)) ≡ cond b (significant ds) (d ∷ ds)
    by_test true is rest = rest
    by_test false is rest = rw is refl

starts : (y : ℕ) (ys : List ℕ) → significant (y ∷ ys) ≡ y ∷ ys → (y == 48) ≡ false
starts y ys e = by_test (y == 48) refl
  where
    by_test : (b : Bool) → (y == 48) ≡ b → (y == 48) ≡ false
    by_test true is =
        let shorter : significant ys ≡ y ∷ ys = rw is at e in
        absurd (omega (arith, length_le ys, ap length shorter))
    by_test false is = is

pub longer_is_larger : (xs ys : List ℕ) → list_all is_ascii_digit xs ≡ true → list_all is_ascii_digit ys ≡ true → significant ys ≡ ys → length xs < length ys → digits_value 10 xs < digits_value 10 ys
longer_is_larger xs [] digits other from more = absurd (omega arith)
longer_is_larger xs (y ∷ ys) digits other from more =
    let some : 0 < digit_value y = not_zero y (and_true (is_ascii_digit y) (list_all is_ascii_digit ys) other).0 (starts y ys from) in
    stays_below 0 (0 * 10 + digit_value y) xs ys (omega arith) (omega arith) digits

pub record SameDigits (n m : ℕ) (xs ys : List ℕ) : Type 0 where
  pub front : n ≡ m
  pub digits : xs ≡ ys

same_from : (n m : ℕ) (xs ys : List ℕ) → length xs ≡ length ys → list_all is_ascii_digit xs ≡ true → list_all is_ascii_digit ys ≡ true → digits_value_after 10 n xs ≡ digits_value_after 10 m ys → SameDigits n m xs ys
same_from n m [] [] len all other same = record { front = same; digits = refl }
same_from n m [] (y ∷ ys) len all other same = absurd (omega arith)
same_from n m (x ∷ xs) [] len all other same = absurd (omega arith)
same_from n m (x ∷ xs) (y ∷ ys) len all other same =
    let one = and_true (is_ascii_digit x) (list_all is_ascii_digit xs) all in
    let two = and_true (is_ascii_digit y) (list_all is_ascii_digit ys) other in
    let rest = same_from (n * 10 + digit_value x) (m * 10 + digit_value y) xs ys (omega arith) one.1 two.1 same in
    let small : digit_value x ≤ 9 = below_ten x one.0 in
    let other_small : digit_value y ≤ 9 = below_ten y two.0 in
    let front : n ≡ m = omega (arith, rest.front) in
    let digit : digit_value x ≡ digit_value y = omega (arith, rest.front) in
    record { front = front; digits = cc (same_digit x y one.0 two.0 digit, rest.digits) }

same_length : (xs ys : List ℕ) → list_all is_ascii_digit xs ≡ true → list_all is_ascii_digit ys ≡ true → significant xs ≡ xs → significant ys ≡ ys → digits_value 10 xs ≡ digits_value 10 ys → length xs ≡ length ys
same_length xs ys all other from other_from same =
    elim (cases_order (length xs) (length ys)) [
      | inl e ↦ e
      | inr apart ↦ elim apart [
        | inl below ↦ let larger = longer_is_larger xs ys all other other_from below in absurd (omega arith)
        | inr above ↦ let larger = longer_is_larger ys xs other all from above in absurd (omega arith)
      ]
    ]

-- numbers are the same where their digits are, without zeros before them
pub one_spelling : (xs ys : List ℕ) → list_all is_ascii_digit xs ≡ true → list_all is_ascii_digit ys ≡ true → digits_value 10 xs ≡ digits_value 10 ys → significant xs ≡ significant ys
one_spelling xs ys all other same =
    let values : digits_value 10 (significant xs) ≡ digits_value 10 (significant ys) = significant_value xs ∙ same ∙ sym (significant_value ys) in
    let one = significant_digits xs all in
    let two = significant_digits ys other in
    (same_from 0 0 (significant xs) (significant ys) (same_length (significant xs) (significant ys) one two (significant_again xs) (significant_again ys) values) one two values).digits

-- numbers of as many digits each compare as their digits do, from the first on
pub same_length_cmp : (n : ℕ) (xs ys : List ℕ) → length xs ≡ length ys → list_all is_ascii_digit xs ≡ true → list_all is_ascii_digit ys ≡ true
    → slice_cmp nat_cmp xs ys ≡ nat_cmp (digits_value_after 10 n xs) (digits_value_after 10 n ys)
same_length_cmp n [] [] len all other = nat_cmp_is n n Equal refl
same_length_cmp n [] (y ∷ ys) len all other = absurd (omega arith)
same_length_cmp n (x ∷ xs) [] len all other = absurd (omega arith)
same_length_cmp n (x ∷ xs) (y ∷ ys) len all other =
    let one = and_true (is_ascii_digit x) (list_all is_ascii_digit xs) all in
    let two = and_true (is_ascii_digit y) (list_all is_ascii_digit ys) other in
    let value : digit_value x ≡ x - 48 = digit_is x (digit_low x one.0) (digit_high x one.0) in
    let other_value : digit_value y ≡ y - 48 = digit_is y (digit_low y two.0) (digit_high y two.0) in
    let low : 48 ≤ x = digit_low x one.0 in
    let other_low : 48 ≤ y = digit_low y two.0 in
    elim (cases_order x y) [
      | inl e ↦ subst (λ z. slice_cmp nat_cmp (x ∷ xs) (z ∷ ys) ≡ nat_cmp (digits_value_after 10 n (x ∷ xs)) (digits_value_after 10 n (z ∷ ys))) e
          (rw (sym (nat_cmp_is x x Equal refl)) (same_length_cmp (n * 10 + digit_value x) xs ys (omega arith) one.1 two.1))
      | inr apart ↦ elim apart [
        | inl below ↦
            let less = stays_below (n * 10 + digit_value x) (n * 10 + digit_value y) xs ys (omega arith) (omega arith) one.1 in
            rw (sym (nat_cmp_is x y Less below)) (nat_cmp_is (digits_value_after 10 n (x ∷ xs)) (digits_value_after 10 n (y ∷ ys)) Less less)
        | inr above ↦
            let less = stays_below (n * 10 + digit_value y) (n * 10 + digit_value x) ys xs (omega arith) (omega arith) two.1 in
            rw (sym (nat_cmp_is x y Greater above)) (nat_cmp_is (digits_value_after 10 n (x ∷ xs)) (digits_value_after 10 n (y ∷ ys)) Greater less)
      ]
    ]

-- without as many digits as there are zeros before the others
pub behind_zeros : (ds : List ℕ) → drop (prefix_len (λ d. d == 48) ds) ds ≡ significant ds
behind_zeros [] = refl
behind_zeros (d ∷ ds) = by_test (d == 48) (behind_zeros ds)
  where
    by_test : (b : Bool) → drop (prefix_len (λ c. c == 48) ds) ds ≡ significant ds → drop (cond b (1 + prefix_len (λ c. c == 48) ds) 0) (d ∷ ds) ≡ cond b (significant ds) (d ∷ ds)
    by_test true rest =
        let more : 1 + prefix_len (λ c. c == 48) ds ≡ suc (prefix_len (λ c. c == 48) ds) = omega arith in
        rw more rest
    by_test false rest = refl
