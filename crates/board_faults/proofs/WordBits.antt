-- The bits of words.
use Rattle.std.proofs.Common.{◌≡◌, ◌≢◌, ◌<◌, ◌-◌, ◌*◌, ◌%◌, ◌^◌, ℕ, zero, suc, ◌+◌, Bool, true, false, not, ◌&&◌, ◌||◌, ◌==◌, min, max, refl, sym, ap, ap₂, ◌∙◌, arith}
use Rattle.std.specs.Prelude.{if◌then◌else◌}
use Rattle.std.specs.Int.{bit_at, bit_not, trailing_zeros, w64}
use Rattle.std.specs.Int.Bits.{bit_and, bit_or, bit_xor}
use Rattle.std.proofs.lemmas.Nat.Bits.{bit_at-lt, bit_at-zero, bit_at_and, bit_at_or, bit_at_xor, bit_at_not, bit_at_ones, bit_at_set_other, bit_at_set_same, bit_at-trailing_zeros}
use Rattle.jt_bits.specs.Packed.{has_bit}
use Rattle.board_faults.specs.Together.{unlike}

and_tests : (a b : ℕ) → a < 2 → b < 2 → (min a b == 1) ≡ ((a == 1) && (b == 1))
and_tests zero zero h k = refl
and_tests zero (suc zero) h k = refl
and_tests (suc zero) zero h k = refl
and_tests (suc zero) (suc zero) h k = refl
and_tests (suc (suc a)) b h k = absurd (omega arith)
and_tests zero (suc (suc b)) h k = absurd (omega arith)
and_tests (suc zero) (suc (suc b)) h k = absurd (omega arith)

or_tests : (a b : ℕ) → a < 2 → b < 2 → (max a b == 1) ≡ ((a == 1) || (b == 1))
or_tests zero zero h k = refl
or_tests zero (suc zero) h k = refl
or_tests (suc zero) zero h k = refl
or_tests (suc zero) (suc zero) h k = refl
or_tests (suc (suc a)) b h k = absurd (omega arith)
or_tests zero (suc (suc b)) h k = absurd (omega arith)
or_tests (suc zero) (suc (suc b)) h k = absurd (omega arith)

xor_tests : (a b : ℕ) → a < 2 → b < 2 → (((a + b) % 2) == 1) ≡ unlike (a == 1) (b == 1)
xor_tests zero zero h k = refl
xor_tests zero (suc zero) h k = refl
xor_tests (suc zero) zero h k = refl
xor_tests (suc zero) (suc zero) h k = refl
xor_tests (suc (suc a)) b h k = absurd (omega arith)
xor_tests zero (suc (suc b)) h k = absurd (omega arith)
xor_tests (suc zero) (suc (suc b)) h k = absurd (omega arith)

not_tests : (a : ℕ) → a < 2 → ((1 - a) == 1) ≡ not (a == 1)
not_tests zero h = refl
not_tests (suc zero) h = refl
not_tests (suc (suc a)) h = absurd (omega arith)

pub and_bit : (a b k : ℕ) → has_bit (bit_and a b) k ≡ (has_bit a k && has_bit b k)
unfolding has_bit
and_bit a b k = ap (λ (n : ℕ). n == 1) (bit_at_and a b k) ∙ and_tests (bit_at a k) (bit_at b k) (bit_at-lt a k) (bit_at-lt b k)

pub or_bit : (a b k : ℕ) → has_bit (bit_or a b) k ≡ (has_bit a k || has_bit b k)
unfolding has_bit
or_bit a b k = ap (λ (n : ℕ). n == 1) (bit_at_or a b k) ∙ or_tests (bit_at a k) (bit_at b k) (bit_at-lt a k) (bit_at-lt b k)

pub xor_bit : (a b k : ℕ) → has_bit (bit_xor a b) k ≡ unlike (has_bit a k) (has_bit b k)
unfolding has_bit
xor_bit a b k = ap (λ (n : ℕ). n == 1) (bit_at_xor a b k) ∙ xor_tests (bit_at a k) (bit_at b k) (bit_at-lt a k) (bit_at-lt b k)

pub not_bit : (a k : ℕ) → a < 2 ^ 64 → k < 64 → has_bit (bit_not w64 a) k ≡ not (has_bit a k)
unfolding has_bit
not_bit a k fits in_ = ap (λ (n : ℕ). n == 1) (bit_at_not w64 a k fits in_) ∙ not_tests (bit_at a k) (bit_at-lt a k)

pub no_bit : (k : ℕ) → has_bit 0 k ≡ false
unfolding has_bit
no_bit k = ap (λ (n : ℕ). n == 1) (bit_at-zero k)

pub every_bit : (k : ℕ) → k < 64 → has_bit (2 ^ 64 - 1) k ≡ true
unfolding has_bit
every_bit k h = ap (λ (n : ℕ). n == 1) (bit_at_ones 64 k h)

-- the bits below the lowest that is set
pub none_below : (x k : ℕ) → x ≢ 0 → x < 2 ^ 64 → k < trailing_zeros w64 x → (k < 64) × (has_bit x k ≡ false)
unfolding has_bit
none_below x k some fits below =
    let low = bit_at-trailing_zeros w64 x (omega (arith, some)) fits in
    (omega (arith, low.0, below), ap (λ (n : ℕ). n == 1) (low.2 k below))

-- the lowest that is set
pub lowest_set : (x : ℕ) → x ≢ 0 → x < 2 ^ 64 → (trailing_zeros w64 x < 64) × (has_bit x (trailing_zeros w64 x) ≡ true)
unfolding has_bit
lowest_set x some fits =
    let low = bit_at-trailing_zeros w64 x (omega (arith, some)) fits in
    (omega (arith, low.0), ap (λ (n : ℕ). n == 1) low.1)

pub set_here : (word k : ℕ) → k < 64 → has_bit (bit_or word (1 * 2 ^ k % 2 ^ 64)) k ≡ true
unfolding has_bit
set_here word k h = ap (λ (n : ℕ). n == 1) (bit_at_set_same w64 word k h)

pub set_others : (word k j : ℕ) → k < 64 → j ≢ k → has_bit (bit_or word (1 * 2 ^ k % 2 ^ 64)) j ≡ has_bit word j
unfolding has_bit
set_others word k j h apart = ap (λ (n : ℕ). n == 1) (bit_at_set_other w64 word k h j apart)
