-- The bits of a word from a place on.
use Rattle.std.proofs.Common.{◌≡◌, ℕ, ◌+◌, ◌/◌, ◌^◌, ◌<◌, ◌≤◌, ◌==◌, false, sym, ap, ◌∙◌, arith, bit_and}
use Rattle.std.specs.Int.{bit_at, trailing_zeros, w64}
use Rattle.std.proofs.lemmas.Nat.{shr-shr}
use Rattle.std.proofs.lemmas.Nat.Bits.{shr_and_one, bit_at-zero, bit_at_above, bit_at-trailing_zeros}
use Rattle.jt_bits.specs.Packed.{has_bit}

shifted_bit : (word j k : ℕ) → bit_at (word / 2 ^ j) k ≡ bit_at word (j + k)
shifted_bit word j k = sym (shr_and_one (word / 2 ^ j) k) ∙ ap (λ (n : ℕ). bit_and n 1) (shr-shr word j k) ∙ shr_and_one word (j + k)

-- where no bit is left, each is 0
pub no_bit_left : (word j k : ℕ) → word / 2 ^ j ≡ 0 → has_bit word (j + k) ≡ false
unfolding has_bit
no_bit_left word j k none = ap (λ (n : ℕ). n == 1) (sym (shifted_bit word j k) ∙ ap (λ (n : ℕ). bit_at n k) none ∙ bit_at-zero k)

-- the bits below the lowest that is set are 0
pub zero_below : (word j k : ℕ) → 0 < word / 2 ^ j → word / 2 ^ j < 2 ^ 64 → k < trailing_zeros w64 (word / 2 ^ j) → has_bit word (j + k) ≡ false
unfolding has_bit
zero_below word j k some fits less =
    ap (λ (n : ℕ). n == 1) (sym (shifted_bit word j k) ∙ (bit_at-trailing_zeros w64 (word / 2 ^ j) some fits).2 k less)

-- and that bit is one of the word's
pub lowest_within : (word j : ℕ) → word < 2 ^ 64 → 0 < word / 2 ^ j → word / 2 ^ j < 2 ^ 64 → j + trailing_zeros w64 (word / 2 ^ j) ≤ 64
lowest_within word j fits some rest_fits =
    let place = j + trailing_zeros w64 (word / 2 ^ j) in
    let one : bit_at word place ≡ 1 =
    sym (shifted_bit word j (trailing_zeros w64 (word / 2 ^ j))) ∙ (bit_at-trailing_zeros w64 (word / 2 ^ j) some rest_fits).1 in
    within place one (bit_at_above word 64 place fits)
  where
    within : (place : ℕ) → bit_at word place ≡ 1 → (64 ≤ place → bit_at word place ≡ 0) → place ≤ 64
    within place one above = grind (arith, one, above)
