-- Bits that are handed over in a word, as a list.
use Rattle.std.proofs.Common.{◌≡◌, ℕ, zero, suc, ◌+◌, ◌-◌, ◌<◌, ◌≤◌, ◌^◌, ◌*◌, ◌%◌, ⊎_elim, Bool, true, false, ◌||◌, List, [], ◌∷◌, ◌++◌, length, take, get_or, refl, sym, ap, ◌∙◌, arith, append_assoc, length-append, ◌==◌}
use Rattle.std.specs.Int.Bits.{bit_or}
use Rattle.std.proofs.lemmas.Bool.{cases_lt}
use Rattle.std.proofs.lemmas.List.{length-take, take_all}
use Rattle.std.proofs.lemmas.Nat.Bits.{bit_at-zero}
use Rattle.jt_bits.specs.Packed.{has_bit}
use Rattle.jt_bits.specs.Words.{bit_of}
use Rattle.jt_bits.proofs.Lists.{bit_of-get_or}
use Rattle.jt_bits.proofs.PackedWords.{or_bit, shl_high, shl_low}
use Rattle.jt_bits.proofs.WordShifts.{get-word, length-word}
use Rattle.board_chain.specs.Rows.{joined_registers, before}
use Rattle.board_chain.specs.Words.{word_bits}
use Rattle.board_chain.proofs.Rows.{bit-left, bit-right, same_bits}

pub bit-word : (word n j : ℕ) → j < n → bit_of (word_bits word n) j ≡ has_bit word j
bit-word word n j h = bit_of-get_or (word_bits word n) j ∙ get-word word n j h

-- ---- what comes out

no-bit : (j : ℕ) → has_bit 0 j ≡ false
unfolding has_bit
no-bit j = ap (λ (n : ℕ). n == 1) (bit_at-zero j)

bit-past : (xs : List Bool) (i : ℕ) → length xs ≤ i → bit_of xs i ≡ false
bit-past [] i h = refl
bit-past (x ∷ xs) zero h = absurd (omega arith)
bit-past (x ∷ xs) (suc i) h = bit-past xs i (omega arith)

-- a word put behind the bits of another
behind : (out word m : ℕ) (xs ys : List Bool) → m ≤ 64 → length xs < 64 → ((j : ℕ) → j < 64 → has_bit out j ≡ bit_of xs j)
    → ((j : ℕ) → j < m → has_bit word j ≡ bit_of ys j)
    → (j : ℕ) → j < m → has_bit (bit_or out (word * 2 ^ length xs % 2 ^ 64)) j ≡ bit_of (xs ++ ys) j
behind out word m xs ys few less first next j h =
    or_bit out (word * 2 ^ length xs % 2 ^ 64) j
    ∙ ⊎_elim
    (λ (low : j < length xs).
    ap (λ (b : Bool). has_bit out j || b) (shl_low word (length xs) j (omega arith) low) ∙ or-none (has_bit out j) ∙ first j (omega arith)
    ∙ sym (bit-left xs ys j low))
    (λ (high : length xs ≤ j).
    let e : length xs + (j - length xs) ≡ j = omega arith in
    ap (λ (b : Bool). b || has_bit (word * 2 ^ length xs % 2 ^ 64) j) (first j (omega arith) ∙ bit-past xs j high)
    ∙ shl_high word (length xs) j (omega arith) high ∙ next (j - length xs) (omega arith)
    ∙ sym (bit-right xs ys (j - length xs)) ∙ ap (bit_of (xs ++ ys)) e)
    (cases_lt j (length xs))
  where
    or-none : (b : Bool) → (b || false) ≡ b
    or-none true = refl
    or-none false = refl

bit-take : (n : ℕ) (xs : List Bool) (i : ℕ) → i < n → bit_of (take n xs) i ≡ bit_of xs i
bit-take zero xs i h = absurd (omega arith)
bit-take (suc n) [] i h = refl
bit-take (suc n) (x ∷ xs) zero h = refl
bit-take (suc n) (x ∷ xs) (suc i) h = bit-take n xs i (omega arith)

-- a word of these bits is their front
pub is_front : (out n : ℕ) (xs : List Bool) → n ≤ length xs → ((j : ℕ) → j < n → has_bit out j ≡ bit_of xs j) → word_bits out n ≡ take n xs
is_front out n xs long each =
    same_bits (word_bits out n) (take n xs) (length-word out n ∙ (let e = length-take n xs in omega (arith, e)))
    (λ i h. let less : i < n = (let e = length-take n xs in omega (arith, e)) in
    bit-word out n i less ∙ each i less ∙ sym (bit-take n xs i less))

joined-more : (rows : List (List Bool)) (k : ℕ) → k < length rows → joined_registers (take (k + 1) rows) ≡ joined_registers (take k rows) ++ get_or rows k []
joined-more [] k h = absurd (omega arith)
joined-more (r ∷ rows) zero h = one r
  where
    one : (r : List Bool) → r ++ [] ≡ r
    one [] = refl
    one (x ∷ xs) = ap (λ (l : List Bool). x ∷ l) (one xs)
joined-more (r ∷ rows) (suc k) h =
    let n : suc k + 1 ≡ suc (k + 1) = omega arith in
    ap (λ (m : ℕ). joined_registers (take m (r ∷ rows))) n
    ∙ ap (λ (l : List Bool). r ++ l) (joined-more rows k (omega arith))
    ∙ sym (append_assoc r (joined_registers (take k rows)) (get_or rows k []))

long-front : (rows : List (List Bool)) (k n : ℕ) (line : List Bool) → n ≤ before rows k → n ≤ length (joined_registers rows ++ line)
long-front [] zero n line h = omega (arith, h)
long-front [] (suc k) n line h = omega (arith, h)
long-front (r ∷ rows) zero n line h = omega (arith, h)
long-front (r ∷ rows) (suc k) n line h =
    let a = length-append r (joined_registers (take k rows)) in
    let b = length-append (joined_registers rows) line in
    let c = length-append (r ++ joined_registers rows) line in
    let d = length-append r (joined_registers rows) in
    let e = long-front rows k (n - length r) line (omega (arith, h, a)) in
    omega (arith, a, b, c, d, e)

joined-front : (rows : List (List Bool)) (k i : ℕ) (line : List Bool) → i < before rows k → bit_of (joined_registers rows ++ line) i ≡ bit_of (joined_registers (take k rows)) i
joined-front [] zero i line h = absurd (omega arith)
joined-front [] (suc k) i line h = absurd (omega arith)
joined-front (r ∷ rows) zero i line h = absurd (omega arith)
joined-front (r ∷ rows) (suc k) i line h =
    let long = length-append r (joined_registers (take k rows)) in
    ap (λ (l : List Bool). bit_of l i) (append_assoc r (joined_registers rows) line)
    ∙ ⊎_elim
    (λ (low : i < length r). bit-left r (joined_registers rows ++ line) i low ∙ sym (bit-left r (joined_registers (take k rows)) i low))
    (λ (high : length r ≤ i).
    let e : length r + (i - length r) ≡ i = omega arith in
    ap (bit_of (r ++ (joined_registers rows ++ line))) (sym e) ∙ bit-right r (joined_registers rows ++ line) (i - length r)
    ∙ joined-front rows k (i - length r) line (omega (arith, long))
    ∙ sym (bit-right r (joined_registers (take k rows)) (i - length r)) ∙ ap (bit_of (r ++ joined_registers (take k rows))) e)
    (cases_lt i (length r))

-- the bits of the first k registers, as far as a word has them
pub record Out (rows : List (List Bool)) (k at out : ℕ) : Type 0 where
  pub place : at ≡ before rows k
  pub bits : (j : ℕ) → j < 64 → has_bit out j ≡ bit_of (joined_registers (take k rows)) j

pub out_none : (rows : List (List Bool)) → Out rows 0 0 0
out_none [] = record { place = refl; bits = λ j h. no-bit j }
out_none (r ∷ rows) = record { place = refl; bits = λ j h. no-bit j }

-- one register more
pub out_more : (rows : List (List Bool)) (k at out word : ℕ) (r : List Bool) → k < length rows → get_or rows k [] ≡ r → at < 64 → Out rows k at out
    → ((j : ℕ) → j < 64 → has_bit word j ≡ bit_of r (0 + j)) → Out rows (k + 1) (at + length r) (bit_or out (word * 2 ^ at % 2 ^ 64))
out_more rows k at out word r h is less so read =
    let front = joined_registers (take k rows) in
    let e : joined_registers (take (k + 1) rows) ≡ front ++ r = joined-more rows k h ∙ ap (λ (l : List Bool). front ++ l) is in
    record {
      place = omega (arith, so.place, length-append front r, ap (λ (l : List Bool). length l) e);
      bits = λ j in_.
          ap (λ (n : ℕ). has_bit (bit_or out (word * 2 ^ n % 2 ^ 64)) j) so.place
          ∙ behind out word 64 front r (omega arith) (omega (arith, so.place, less)) so.bits
          (λ i low. let z : 0 + i ≡ i = omega arith in read i low ∙ ap (bit_of r) z) j in_
          ∙ ap (λ (l : List Bool). bit_of l j) (sym e);
    }

-- the word is full
pub out_full : (rows : List (List Bool)) (k at out : ℕ) (line : List Bool) → 64 ≤ at → Out rows k at out
    → (n : ℕ) → n ≤ 64 → word_bits out n ≡ take n (joined_registers rows ++ line)
out_full rows k at out line full so n few =
    is_front out n (joined_registers rows ++ line) (long-front rows k n line (omega (arith, so.place, full, few)))
    (λ j h. so.bits j (omega (arith, h, few)) ∙ sym (joined-front rows k j line (omega (arith, so.place, full, few, h))))

-- all registers have less, and behind them is what is shifted in
pub out_past : (rows : List (List Bool)) (k at out word : ℕ) → length rows ≤ k → at < 64 → Out rows k at out
    → (n : ℕ) → n ≤ 64 → word_bits (bit_or out (word * 2 ^ at % 2 ^ 64)) n ≡ take n (joined_registers rows ++ word_bits word n)
out_past rows k at out word past less so n few =
    let all : take k rows ≡ rows = take_all k rows past in
    let J = joined_registers rows in
    let here : at ≡ length J = so.place ∙ ap (λ (l : List (List Bool)). length (joined_registers l)) all in
    is_front (bit_or out (word * 2 ^ at % 2 ^ 64)) n (J ++ word_bits word n) (omega (arith, length-append J (word_bits word n), length-word word n))
    (λ j h. ap (λ (m : ℕ). has_bit (bit_or out (word * 2 ^ m % 2 ^ 64)) j) here
    ∙ behind out word n J (word_bits word n) few (omega (arith, here, less)) (λ i low. so.bits i low ∙ ap (λ (l : List (List Bool)). bit_of (joined_registers l) i) all)
    (λ i low. sym (bit-word word n i low)) j h)
