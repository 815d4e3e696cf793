-- Devices that shift, looked at one by one.
use mathlib.Core.Bool.{beq}
use Rattle.std.proofs.Common.{◌≡◌, ℕ, zero, suc, ◌+◌, ◌-◌, ◌<◌, ◌≤◌, ◌/◌, length, length-append, Bool, true, false, ◌&&◌, nat_eq, List, [], ◌∷◌, drop, refl, ap, ◌∙◌, arith}
use Rattle.std.specs.Prelude.{Option, Some, slice_get, unwrap_or}
use Rattle.std.specs.Int.Bits.{bit_and}
use Rattle.jt_bits.specs.Packed.{has_bit}
use Rattle.jt_bits.specs.Words.{bit_of}
use Rattle.jt_bits.proofs.PackedWords.{bit_read}
use Rattle.jt_tap.specs.declared.Column.{Column}
use Rattle.board_model.specs.Chain.{ChipState, members}
use Rattle.board_model.specs.Whole.{joined_bits, selected_bits_of}
use Rattle.board_chain.specs.Shifting.{all_shift, shifts, shows}

-- the lowest bit of a register's word is its first
pub low_bit : (word : ℕ) (bits : List Bool) → ((j : ℕ) → j < 64 → has_bit word j ≡ bit_of bits (0 + j)) → nat_eq (bit_and word 1) 1 ≡ bit_of bits 0
low_bit word bits read =
    let e : word ≡ word / 1 = omega arith in
    ap (λ (w : ℕ). nat_eq (bit_and w 1) 1) e ∙ bit_read word 0 ∙ read 0 (omega arith)

some_same : (x y : ChipState) → Some x ≡ Some y → x ≡ y
some_same x y e = ap (λ (o : Option ChipState). unwrap_or o x) e

shift_at : (column : Column) (cs : List ChipState) (i : ℕ) (c : ChipState) → slice_get cs i ≡ Some c
    → all_shift column (drop i cs) ≡ (shifts column c && all_shift column (drop (suc i) cs))
shift_at column [] i c e = cc
shift_at column (x ∷ xs) zero c e = ap (λ y. shifts column y && all_shift column xs) (some_same x c e)
shift_at column (x ∷ xs) (suc i) c e = shift_at column xs i c e

pub shift_next : (column : Column) (cs : List ChipState) (i : ℕ) (c : ChipState) → slice_get cs i ≡ Some c
    → all_shift column (drop i cs) ≡ (shifts column c && all_shift column (drop (i + 1) cs))
shift_next column cs i c e =
    let next : suc i ≡ i + 1 = omega arith in
    shift_at column cs i c e ∙ ap (λ n. shifts column c && all_shift column (drop n cs)) next

pub same_shows : (tdo b : Bool) → beq tdo b ≡ shows b (Some tdo)
same_shows true true = refl
same_shows true false = refl
same_shows false true = refl
same_shows false false = refl

-- ---- how many bits there are

-- so many bits are left for the devices from i on
pub record Left (column : Column) (cs : List ChipState) (bits i left : ℕ) : Type 0 where
  pub sum : length (joined_bits column (members cs)) + left ≡ bits + length (joined_bits column (members (drop i cs)))

pub left_all : (column : Column) (cs : List ChipState) (bits : ℕ) → Left column cs bits 0 bits
left_all column [] bits = record { sum = omega arith }
left_all column (c ∷ cs) bits = record { sum = omega arith }

joined_at : (column : Column) (cs : List ChipState) (i : ℕ) (c : ChipState) → slice_get cs i ≡ Some c
    → length (joined_bits column (members (drop i cs))) ≡ length (selected_bits_of column c.member) + length (joined_bits column (members (drop (suc i) cs)))
joined_at column [] i c e = cc
joined_at column (x ∷ xs) zero c e =
    length-append (selected_bits_of column x.member) (joined_bits column (members xs))
    ∙ ap (λ (y : ChipState). length (selected_bits_of column y.member) + length (joined_bits column (members xs))) (some_same x c e)
joined_at column (x ∷ xs) (suc i) c e = joined_at column xs i c e

joined_next : (column : Column) (cs : List ChipState) (i : ℕ) (c : ChipState) → slice_get cs i ≡ Some c
    → length (joined_bits column (members (drop i cs))) ≡ length (selected_bits_of column c.member) + length (joined_bits column (members (drop (i + 1) cs)))
joined_next column cs i c e =
    let next : suc i ≡ i + 1 = omega arith in
    joined_at column cs i c e ∙ ap (λ n. length (selected_bits_of column c.member) + length (joined_bits column (members (drop n cs)))) next

pub left_next : (column : Column) (cs : List ChipState) (bits i left len : ℕ) (c : ChipState) → slice_get cs i ≡ Some c → len ≡ length (selected_bits_of column c.member)
    → len ≤ left → Left column cs bits i left → Left column cs bits (i + 1) (left - len)
left_next column cs bits i left len c at is within l =
    let more = joined_next column cs i c at in
    record { sum = omega (arith, more, is, within, l.sum) }

-- a register has more bits than are left
pub left_over : (column : Column) (cs : List ChipState) (bits i left len : ℕ) (c : ChipState) → slice_get cs i ≡ Some c → len ≡ length (selected_bits_of column c.member)
    → left < len → Left column cs bits i left → bits < length (joined_bits column (members cs))
left_over column cs bits i left len c at is over l =
    let more = joined_next column cs i c at in
    omega (arith, more, is, over, l.sum)

none-left : (column : Column) (cs : List ChipState) (i : ℕ) → length cs ≤ i → joined_bits column (members (drop i cs)) ≡ []
none-left column [] zero h = refl
none-left column [] (suc i) h = refl
none-left column (c ∷ cs) zero h = absurd (omega arith)
none-left column (c ∷ cs) (suc i) h = none-left column cs i (omega arith)

pub left_none : (column : Column) (cs : List ChipState) (bits i left : ℕ) → length cs ≤ i → Left column cs bits i left
    → length (joined_bits column (members cs)) ≤ bits
left_none column cs bits i left past l =
    let none = ap (λ (b : List Bool). length b) (none-left column cs i past) in
    omega (arith, none, l.sum)
