-- Sixteen digits of hexadecimal text, all at once.
use Rattle.std.proofs.Common.{◌≡◌, ℕ, ◌+◌, ◌*◌, ◌%◌, ◌<◌, Bool, true, false, not, ◌||◌, nat_eq, List, ◌++◌, length, map, get_or, Fits, w8, sym, ap, ap₂, ◌∙◌, arith}
use Rattle.std.specs.Char.{digit_value, is_ascii_hexdigit}
use Rattle.std.specs.Int.{from_be_bytes, w64}
use Rattle.std.specs.List.{list_all}
use Rattle.std.proofs.Math.Nat.{mod-eq_of_lt}
use Rattle.std.proofs.lemmas.Bool.{agree_below, agree_below_at}
use Rattle.std.proofs.lemmas.Bool.Decides.{nat_tests}
use Rattle.std.proofs.lemmas.List.{ext_get_or, get_or-map, get_or_append_left, length-map}
use Rattle.std.proofs.lemmas.Simd.{Each1-get_or}
use lib.Lanes.{Each1}
use Rattle.jt_bits.specs.Hex.{binary}
use Rattle.jt_bits.specs.Words.{number}
use Rattle.jt_bits.proofs.Pieces.{be_big, decoded, hex_digit}
use Rattle.jt_bits.proofs.Solid.{digit_at}

same : (a b : ℕ) → nat_eq a b ≡ true → a ≡ b
same a b e = grind (arith, nat_tests)

where_digit : (digit good : Bool) → (not digit || good) ≡ true → digit ≡ true → good ≡ true
where_digit true good either is = either
where_digit false good either is = cc

-- lanes that give each digit its value
pub values_by : (f : ℕ → ℕ) (v z : List ℕ) → z ≡ map f v → length v ≡ 16 → Each1 (Fits w8) v
    → agree_below (λ c. not (is_ascii_hexdigit c) || nat_eq (f c) (digit_value c)) (λ c. true) 256 ≡ true
    → (length z ≡ 16) × ((i : ℕ) → i < 16 → is_ascii_hexdigit (get_or v i 0) ≡ true → get_or z i 0 ≡ digit_value (get_or v i 0))
values_by f v z lanes long fits all = (
  ap length lanes ∙ length-map v f ∙ long,
  λ i lt good.
      let x = get_or v i 0 in
      let small = (Each1-get_or (Fits w8) v i 0 (omega (arith, long, lt)) fits).fits in
      let either = agree_below_at (λ c. not (is_ascii_hexdigit c) || nat_eq (f c) (digit_value c)) (λ c. true) 256 x all small in
      ap (λ (l : List ℕ). get_or l i 0) lanes ∙ get_or-map f v i 0 0 (omega (arith, long, lt))
      ∙ same (f x) (digit_value x) (where_digit (is_ascii_hexdigit x) (nat_eq (f x) (digit_value x)) either good),
)

-- two values in one byte
pub pair_at : (vs : List ℕ) (k : ℕ) → length vs ≡ 16 → k + 1 < 16 → get_or vs k 0 < 16 → get_or vs (k + 1) 0 < 16
    → (get_or (vs ++ vs) k 0 * 16 % 256 + get_or (vs ++ vs) (k + 1) 0) % 256 ≡ get_or vs k 0 * 16 + get_or vs (k + 1) 0
pair_at vs k long within high low =
    let first : get_or (vs ++ vs) k 0 ≡ get_or vs k 0 = get_or_append_left vs vs 0 k (omega (arith, long, within)) in
    let second : get_or (vs ++ vs) (k + 1) 0 ≡ get_or vs (k + 1) 0 = get_or_append_left vs vs 0 (k + 1) (omega (arith, long, within)) in
    ap₂ (λ (a b : ℕ). (a * 16 % 256 + b) % 256) first second
    ∙ ap (λ (a : ℕ). (a + get_or vs (k + 1) 0) % 256) (mod-eq_of_lt {n = get_or vs k 0 * 16} {m = 256} (omega (arith, high)))
    ∙ mod-eq_of_lt {n = get_or vs k 0 * 16 + get_or vs (k + 1) 0} {m = 256} (omega (arith, high, low))

-- eight bytes of two values each are the number of sixteen digits
pub eight_bytes : (ds bs : List ℕ) → length ds ≡ 16 → list_all is_ascii_hexdigit ds ≡ true → length bs ≡ 8
    → ((k : ℕ) → k < 8 → get_or bs k 0 ≡ digit_value (get_or ds (2 * k) 0) * 16 + digit_value (get_or ds (2 * k + 1) 0))
    → from_be_bytes w64 bs ≡ number (binary ds)
eight_bytes ds bs long solid eight pairs =
    let d = decoded 8 0 ds long (λ k lt. hex_digit (get_or ds k 0) (digit_at ds k solid lt)) in
    let is : bs ≡ d.bytes = ext_get_or 0 bs d.bytes (eight ∙ sym d.long) (λ k lt. pairs k (omega (arith, eight, lt)) ∙ sym (d.pairs k (omega (arith, eight, lt)))) in
    ap (from_be_bytes w64) is ∙ be_big d.bytes d.long ∙ d.worth
