-- Digits, one after another.
use Rattle.std.proofs.Common.{◌≡◌, ℕ, zero, suc, ◌+◌, ◌-◌, ◌*◌, ◌^◌, ◌<◌, ◌≤◌, Bool, true, false, cond, ◌&&◌, nat_eq, List, [], ◌∷◌, length, take, drop, get_or, refl, sym, ap, subst, ◌∙◌, arith, add-one, drop-cons, min, ⊎_elim}
use Rattle.std.proofs.str.Laws.{order}
use Rattle.std.specs.List.{list_all, prefix_len}
use Rattle.std.specs.Char.{is_ascii_digit, digit_value}
use Rattle.std.specs.Str.Parse.{digits_value_after}
use Rattle.std.proofs.Math.Nat.{pow-succ', mul-le-mul_right, mul-le-mul_left}
use Rattle.std.proofs.lemmas.Bool.Decides.{nat_tests}

pub split_at : (text : List ℕ) (i : ℕ) → i < length text → drop i text ≡ get_or text i 0 ∷ drop (i + 1) text
split_at text i lt = rw add-one (drop-cons text i 0 lt)

-- ---- decimal digits

pub and_true : (a b : Bool) → (a && b) ≡ true → (a ≡ true) × (b ≡ true)
and_true true b h = (refl, h)
and_true false b h = absurd cc

digit_range : (c : ℕ) → is_ascii_digit c ≡ true → (48 ≤ c) × (c ≤ 57)
digit_range c h = (grind (arith, nat_tests), grind (arith, nat_tests))

digit_is : (c : ℕ) → 48 ≤ c → c ≤ 57 → digit_value c ≡ c - 48
digit_is c low high = grind (arith, nat_tests)

more_room : (v d n most : ℕ) → d ≤ 9 → (v + 1) * 10 ^ suc n ≤ most → (v * 10 + d + 1) * 10 ^ n ≤ most
more_room v d n most small room =
    let grown : (v * 10 + d + 1) * 10 ^ n ≤ ((v + 1) * 10) * 10 ^ n = mul-le-mul_right (10 ^ n) (omega arith) in
    let power : 10 ^ suc n ≡ 10 * 10 ^ n = pow-succ' 10 n in
    let same : ((v + 1) * 10) * 10 ^ n ≡ (v + 1) * 10 ^ suc n = rw power (grind arith) in
    omega (arith, grown, same, room)

-- a power of ten is at least 1
pow_positive : (n : ℕ) → 1 ≤ 10 ^ n
pow_positive zero = omega arith
pow_positive (suc n) = omega (arith, pow-succ' 10 n, pow_positive n)

pub below_limit : (v n most : ℕ) → (v + 1) * 10 ^ n ≤ most → v < most
below_limit v n most room = omega (arith, mul-le-mul_left (v + 1) (pow_positive n), room)

pub pow_le : (n m : ℕ) → n ≤ m → 10 ^ n ≤ 10 ^ m
pow_le n zero le = let e : n ≡ 0 = omega arith in rw e (omega arith)
pow_le zero (suc m) le = pow_positive (suc m)
pow_le (suc n) (suc m) le = omega (arith, pow-succ' 10 n, pow-succ' 10 m, pow_le n m (omega arith))

-- one decimal digit more
pub record Step (v : ℕ) (ds : List ℕ) (i most : ℕ) : Type 0 where
  pub low : 48 ≤ get_or ds i 0
  pub high : get_or ds i 0 ≤ 57
  pub value : digits_value_after 10 v (drop i ds) ≡ digits_value_after 10 (v * 10 + (get_or ds i 0 - 48)) (drop (i + 1) ds)
  pub digits : list_all is_ascii_digit (drop (i + 1) ds) ≡ true
  pub fits : v * 10 + (get_or ds i 0 - 48) < most
  pub room : (v * 10 + (get_or ds i 0 - 48) + 1) * 10 ^ (length ds - (i + 1)) ≤ most

pub one_digit : (v : ℕ) (ds : List ℕ) (i most : ℕ) → i < length ds → list_all is_ascii_digit (drop i ds) ≡ true → (v + 1) * 10 ^ (length ds - i) ≤ most → Step v ds i most
one_digit v ds i most lt digits room =
    let c = get_or ds i 0 in
    let split = split_at ds i lt in
    let both = and_true (is_ascii_digit c) (list_all is_ascii_digit (drop (i + 1) ds)) (ap (list_all is_ascii_digit) (sym split) ∙ digits) in
    let range = digit_range c both.0 in
    let left : length ds - i ≡ suc (length ds - (i + 1)) = omega arith in
    let more = more_room v (c - 48) (length ds - (i + 1)) most (omega arith) (subst (λ (n : ℕ). (v + 1) * 10 ^ n ≤ most) left room) in
    record {
      low = range.0;
      high = range.1;
      value = ap (digits_value_after 10 v) split ∙ ap (λ (d : ℕ). digits_value_after 10 (v * 10 + d) (drop (i + 1) ds)) (digit_is c range.0 range.1);
      digits = both.1;
      fits = below_limit (v * 10 + (c - 48)) (length ds - (i + 1)) most more;
      room = more;
    }

pub room_at_start : (n : ℕ) → n ≤ 18 → (0 + 1) * 10 ^ n ≤ 10 ^ 18
room_at_start n le = omega (arith, pow_le n 18 le)

-- ---- digits at the front, and a capped value

taken : (x : ℕ) (xs : List ℕ) (n : ℕ) (b : Bool) → is_ascii_digit x ≡ b → list_all is_ascii_digit (take n xs) ≡ true → list_all is_ascii_digit (take (cond b (1 + n) 0) (x ∷ xs)) ≡ true
taken x xs n true is more = let one : 1 + n ≡ suc n = omega arith in rw (one, is) more
taken x xs n false is more = refl

pub digits_taken : (xs : List ℕ) → list_all is_ascii_digit (take (prefix_len is_ascii_digit xs) xs) ≡ true
digits_taken [] = refl
digits_taken (x ∷ xs) = taken x xs (prefix_len is_ascii_digit xs) (is_ascii_digit x) refl (digits_taken xs)

grows : (n : ℕ) (ds : List ℕ) → 19 ≤ n → 19 ≤ digits_value_after 10 n ds
grows n [] le = le
grows n (d ∷ ds) le = grows (n * 10 + digit_value d) ds (omega arith)

low_same : (n : ℕ) (ds : List ℕ) → n ≤ 19 → min 19 (digits_value_after 10 (min 19 n) ds) ≡ min 19 (digits_value_after 10 n ds)
low_same n ds le = let e : min 19 n ≡ n = omega arith in rw e refl

high_same : (n : ℕ) (ds : List ℕ) → 19 ≤ n → min 19 (digits_value_after 10 (min 19 n) ds) ≡ min 19 (digits_value_after 10 n ds)
high_same n ds le = let e : min 19 n ≡ 19 = omega arith in rw e (omega (arith, grows 19 ds (omega arith), grows n ds le))

capped : (n : ℕ) (ds : List ℕ) → min 19 (digits_value_after 10 (min 19 n) ds) ≡ min 19 (digits_value_after 10 n ds)
capped n ds = ⊎_elim (λ h. low_same n ds (omega arith)) (λ h. high_same n ds (omega arith)) (order n 19)

-- one digit more of a capped value
pub record CappedStep (v : ℕ) (ds : List ℕ) (i : ℕ) : Type 0 where
  pub low : 48 ≤ get_or ds i 0
  pub high : get_or ds i 0 ≤ 57
  pub value : min 19 (digits_value_after 10 v (drop i ds)) ≡ min 19 (digits_value_after 10 (min 19 (v * 10 + (get_or ds i 0 - 48))) (drop (i + 1) ds))
  pub digits : list_all is_ascii_digit (drop (i + 1) ds) ≡ true

pub capped_digit : (v : ℕ) (ds : List ℕ) (i : ℕ) → i < length ds → list_all is_ascii_digit (drop i ds) ≡ true → CappedStep v ds i
capped_digit v ds i lt digits =
    let s = one_digit v ds i ((v + 1) * 10 ^ (length ds - i)) lt digits (omega arith) in
    record { low = s.low; high = s.high; value = ap (min 19) s.value ∙ sym (capped (v * 10 + (get_or ds i 0 - 48)) (drop (i + 1) ds)); digits = s.digits }

pub is_not : (a b : ℕ) → (a ≡ b → ⊥) → nat_eq a b ≡ false
is_not a b h = grind (arith, nat_tests)
