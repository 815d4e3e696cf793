-- Bits packed into words, as the list that they spell.
use Rattle.std.proofs.Common.{◌≡◌, ◌≢◌, ℕ, zero, suc, ◌+◌, ◌-◌, ◌*◌, ◌/◌, ◌%◌, ◌^◌, ◌<◌, ◌≤◌, ◌⊎◌, ⊎_elim, inl, inr, min, max, Bool, true, false, ◌==◌, nat_eq, nat_lt, if◌then◌else◌, List, length, set, get_or, slice_index, refl, sym, ap, subst, ◌∙◌, arith, ◌||◌, ◌&&◌}
use Rattle.std.specs.Int.{bit_at, bit_not, w64}
use Rattle.std.specs.Int.Bits.{bit_and, bit_or}
use Rattle.std.proofs.Math.Nat.{mod-eq_of_lt, add-mod_left}
use Rattle.std.proofs.lemmas.Bool.{cases_eq, cases_lt}
use Rattle.std.proofs.lemmas.Bool.Decides.{nat_tests}
use Rattle.std.proofs.lemmas.Nat.{pow_pos, one_shl, shr-shr, shr_split}
use Rattle.std.proofs.lemmas.Nat.Bits.{bit_at-lt, bit_at_and, bit_at_or, bit_at_ones, bit_at_ones_above, bit_at_set_same, bit_at_set_other, bit_at_clear_same, bit_at_clear_other, bit_at_cat_low, bit_at_cat_high, bit_at_above, bit_at-zero, shr_and_one}
use Rattle.std.proofs.lemmas.List.{get_or-set_same, get_or-set_other}
use Rattle.std.proofs.lemmas.List.FromFn.{length-map-range_with_len, get_or-map-range_with_len, fill_by_all}
use Rattle.jt_bits.specs.Packed.{has_bit, packed_bit, bits_in_words}

-- ---- places of a ring

pub ring : (room from i : ℕ) → from < room → i ≤ room
    → ((from + i < room) × ((from + i) % room ≡ from + i)) ⊎ ((room ≤ from + i) × ((from + i) % room + room ≡ from + i))
ring room from i f h = ⊎_elim
    (λ low. inl (low, mod-eq_of_lt low))
    (λ high.
    let k = from + i - room in
    let is : from + i ≡ room + k = omega arith in
    let same : (room + k) % room ≡ k = add-mod_left room k ∙ mod-eq_of_lt (omega arith) in
    inr (high, omega (arith, ap (λ (n : ℕ). n % room) is, same)))
    (cases_lt (from + i) room)

pub ring_below : (room from i : ℕ) → from < room → i ≤ room → (from + i) % room < room
ring_below room from i f h = ⊎_elim (λ a. omega arith) (λ a. omega arith) (ring room from i f h)

-- two places less than a round apart
pub ring_apart : (room from i j : ℕ) → from < room → i < j → j ≤ room → j < i + room → (from + i) % room ≢ (from + j) % room
ring_apart room from i j f less in_ near = λ same.
    ⊎_elim
    (λ a. ⊎_elim (λ b. omega arith) (λ b. omega arith) (ring room from j f in_))
    (λ a. ⊎_elim (λ b. omega arith) (λ b. omega arith) (ring room from j f in_))
    (ring room from i f (omega arith))

pub ring_distinct : (room from i j : ℕ) → from < room → i < room → j < room → i ≢ j → (from + i) % room ≢ (from + j) % room
ring_distinct room from i j f h k apart = λ same.
    ⊎_elim (λ less. ring_apart room from i j f less (omega arith) (omega arith) same)
    (λ more. ring_apart room from j i f (omega arith) (omega arith) (omega arith) (sym same))
    (cases_lt i j)

-- one place on
pub ring_next : (room from i : ℕ) → from < room → i < room → ((from + 1) % room + i) % room ≡ (from + suc i) % room
ring_next room from i f h =
    let at = (from + 1) % room in
    let below : at < room = ring_below room from 1 f (omega arith) in
    ⊎_elim
    (λ a. ⊎_elim
    (λ b. ⊎_elim (λ d. omega arith) (λ d. omega arith) (ring room from (suc i) f (omega arith)))
    (λ b. ⊎_elim (λ d. omega arith) (λ d. omega arith) (ring room from (suc i) f (omega arith)))
    (ring room at i below (omega arith)))
    (λ a. ⊎_elim
    (λ b. ⊎_elim (λ d. omega arith) (λ d. omega arith) (ring room from (suc i) f (omega arith)))
    (λ b. ⊎_elim (λ d. omega arith) (λ d. omega arith) (ring room from (suc i) f (omega arith)))
    (ring room at i below (omega arith)))
    (ring room from 1 f (omega arith))

-- some places on, and then some more
pub ring_add : (room from a j : ℕ) → from < room → a + j ≤ room → ((from + a) % room + j) % room ≡ (from + (a + j)) % room
ring_add room from a j f h =
    let at = (from + a) % room in
    let below : at < room = ring_below room from a f (omega arith) in
    ⊎_elim
    (λ x. ⊎_elim
    (λ y. ⊎_elim (λ z. omega arith) (λ z. omega arith) (ring room from (a + j) f h))
    (λ y. ⊎_elim (λ z. omega arith) (λ z. omega arith) (ring room from (a + j) f h))
    (ring room at j below (omega arith)))
    (λ x. ⊎_elim
    (λ y. ⊎_elim (λ z. omega arith) (λ z. omega arith) (ring room from (a + j) f h))
    (λ y. ⊎_elim (λ z. omega arith) (λ z. omega arith) (ring room from (a + j) f h))
    (ring room at j below (omega arith)))
    (ring room from a f (omega arith))

-- ---- the list

abbrev bit_from : List ℕ → ℕ → ℕ → Bool
bit_from words start i = packed_bit words ((start + i) % (64 * length words))

pub listed-length : (words : List ℕ) (start len : ℕ) → length (bits_in_words words start len) ≡ len
unfolding bits_in_words
listed-length words start len = length-map-range_with_len (bit_from words start) 0 len

pub listed-get : (words : List ℕ) (start len i : ℕ) (d : Bool) → i < len → get_or (bits_in_words words start len) i d ≡ packed_bit words ((start + i) % (64 * length words))
unfolding bits_in_words
listed-get words start len i d h = get_or-map-range_with_len (bit_from words start) 0 len i i d h (omega arith)

pub is_listed : (words : List ℕ) (start len : ℕ) (bits : List Bool) → length bits ≡ len
    → ((i : ℕ) → i < len → get_or bits i false ≡ packed_bit words ((start + i) % (64 * length words))) → bits_in_words words start len ≡ bits
unfolding bits_in_words
is_listed words start len bits is each = sym (fill_by_all (bit_from words start) bits len false is each)

-- ---- one bit

abbrev test : ℕ → Bool
test k = k == 1

pub bit_read : (word j : ℕ) → nat_eq (bit_and (word / 2 ^ j) 1) 1 ≡ has_bit word j
unfolding has_bit
bit_read word j = ap test (shr_and_one word j)

pub place_read : (words : List ℕ) (place : ℕ) → nat_eq (bit_and (slice_index words (place / 64) / 2 ^ (place % 64)) 1) 1 ≡ packed_bit words place
unfolding packed_bit
place_read words place = bit_read (slice_index words (place / 64)) (place % 64)

-- a word with one bit put is one that differs there alone
pub record Puts (word after j : ℕ) (bit : Bool) : Type 0 where
  pub here : has_bit after j ≡ bit
  pub others : (k : ℕ) → k < 64 → k ≢ j → has_bit after k ≡ has_bit word k

pub sets : (word j : ℕ) → j < 64 → Puts word (bit_or word (1 * 2 ^ j % 2 ^ 64)) j true
unfolding has_bit
sets word j h = record {
  here = ap test (bit_at_set_same w64 word j h);
  others = λ k in_ apart. ap test (bit_at_set_other w64 word j h k apart);
}

pub clears : (word j : ℕ) → j < 64 → Puts word (bit_and word (bit_not w64 (1 * 2 ^ j % 2 ^ 64))) j false
unfolding has_bit
clears word j h = record {
  here = ap test (bit_at_clear_same w64 word j h);
  others = λ k in_ apart. ap test (bit_at_clear_other w64 word j h k in_ apart);
}

pub eq_true : (a b : ℕ) → a ≡ b → (a == b) ≡ true
eq_true a b e = grind (arith, nat_tests)

pub eq_false : (a b : ℕ) → a ≢ b → (a == b) ≡ false
eq_false a b e = grind (arith, nat_tests)

pub put_bit : (words : List ℕ) (place after : ℕ) (bit : Bool) → place < 64 * length words → Puts (slice_index words (place / 64)) after (place % 64) bit
    → (q : ℕ) → packed_bit (set words (place / 64) after) q ≡ if q == place then bit else packed_bit words q
unfolding packed_bit
put_bit words place after bit in_ puts q =
    let w = place / 64 in
    let inside : w < length words = omega arith in
    let stands : get_or (set words w after) w 0 ≡ after = get_or-set_same words w after 0 inside in
    ⊎_elim
    (λ same.
    let word : get_or (set words w after) (q / 64) 0 ≡ after = ap (λ (n : ℕ). get_or (set words w after) (n / 64) 0) same ∙ stands in
    rw (eq_true q place same) (ap (λ (x : ℕ). has_bit x (q % 64)) word ∙ ap (λ (n : ℕ). has_bit after (n % 64)) same ∙ puts.here))
    (λ apart. rw (eq_false q place apart) (⊎_elim
    (λ (same_word : q / 64 ≡ w).
    let word : get_or (set words w after) (q / 64) 0 ≡ after = ap (λ (n : ℕ). get_or (set words w after) n 0) same_word ∙ stands in
    ap (λ (x : ℕ). has_bit x (q % 64)) word
    ∙ puts.others (q % 64) (omega arith) (λ (e : q % 64 ≡ place % 64). apart (omega arith))
    ∙ ap (λ (n : ℕ). has_bit (get_or words n 0) (q % 64)) (sym same_word))
    (λ other. ap (λ (x : ℕ). has_bit x (q % 64)) (get_or-set_other words w (q / 64) after 0 other))
    (cases_eq (q / 64) w)))
    (cases_eq q place)

pub puts_as : (word j a b : ℕ) (x y : Bool) → a ≡ b → x ≡ y → Puts word b j y → Puts word a j x
puts_as word j a b x y e f p = subst (λ (z : ℕ). Puts word z j x) (sym e) (subst (λ (z : Bool). Puts word b j z) (sym f) p)

-- ---- words that are shifted

pub shr_bit : (word s j : ℕ) → has_bit (word / 2 ^ s) j ≡ has_bit word (s + j)
unfolding has_bit
shr_bit word s j = ap (λ (n : ℕ). test (n % 2)) (shr-shr word s j)

pub bit_below : (n k j : ℕ) → j < k → bit_at (n % 2 ^ k) j ≡ bit_at n j
bit_below n k j h =
    sym (bit_at_cat_low (n / 2 ^ k) k (n % 2 ^ k) j h) ∙ ap (λ (m : ℕ). bit_at m j) (shr_split n k)

pub shl_low : (a k j : ℕ) → j < 64 → j < k → has_bit (a * 2 ^ k % 2 ^ 64) j ≡ false
unfolding has_bit
shl_low a k j h low =
    let whole : a * 2 ^ k ≡ a * 2 ^ k + 0 = omega arith in
    ap test (bit_below (a * 2 ^ k) 64 j h ∙ ap (λ (m : ℕ). bit_at m j) whole ∙ bit_at_cat_low a k 0 j low ∙ bit_at-zero j)

pub shl_high : (a k j : ℕ) → j < 64 → k ≤ j → has_bit (a * 2 ^ k % 2 ^ 64) j ≡ has_bit a (j - k)
unfolding has_bit
shl_high a k j h high =
    let whole : a * 2 ^ k ≡ a * 2 ^ k + 0 = omega arith in
    ap test (bit_below (a * 2 ^ k) 64 j h ∙ ap (λ (m : ℕ). bit_at m j) whole ∙ bit_at_cat_high a k 0 j (pow_pos k) high)

pub above : (word j : ℕ) → word < 2 ^ 64 → 64 ≤ j → has_bit word j ≡ false
unfolding has_bit
above word j h high = ap test (bit_at_above word 64 j h high)

or_tests : (a b : ℕ) → a < 2 → b < 2 → test (max a b) ≡ (test a || test b)
or_tests zero zero h k = refl
or_tests zero (suc zero) h k = refl
or_tests (suc zero) zero h k = refl
or_tests (suc zero) (suc zero) h k = refl
or_tests (suc (suc a)) b h k = absurd (omega arith)
or_tests zero (suc (suc b)) h k = absurd (omega arith)
or_tests (suc zero) (suc (suc b)) h k = absurd (omega arith)

and_tests : (a b : ℕ) → a < 2 → b < 2 → test (min a b) ≡ (test a && test b)
and_tests zero zero h k = refl
and_tests zero (suc zero) h k = refl
and_tests (suc zero) zero h k = refl
and_tests (suc zero) (suc zero) h k = refl
and_tests (suc (suc a)) b h k = absurd (omega arith)
and_tests zero (suc (suc b)) h k = absurd (omega arith)
and_tests (suc zero) (suc (suc b)) h k = absurd (omega arith)

pub or_bit : (a b j : ℕ) → has_bit (bit_or a b) j ≡ (has_bit a j || has_bit b j)
unfolding has_bit
or_bit a b j = ap test (bit_at_or a b j) ∙ or_tests (bit_at a j) (bit_at b j) (bit_at-lt a j) (bit_at-lt b j)

pub and_bit : (a b j : ℕ) → has_bit (bit_and a b) j ≡ (has_bit a j && has_bit b j)
unfolding has_bit
and_bit a b j = ap test (bit_at_and a b j) ∙ and_tests (bit_at a j) (bit_at b j) (bit_at-lt a j) (bit_at-lt b j)

-- ---- 64 bits from a place on

abbrev word_at : List ℕ → ℕ → ℕ
word_at words k = slice_index words k

-- a bit of the ring by its word
pub packed_at : (words : List ℕ) (p k j : ℕ) → p ≡ 64 * k + j → j < 64 → packed_bit words p ≡ has_bit (word_at words k) j
unfolding packed_bit
packed_at words p k j e h =
    let word : p / 64 ≡ k = omega arith in
    let bit : p % 64 ≡ j = omega arith in
    ap (λ (n : ℕ). has_bit (word_at words n) (p % 64)) word ∙ ap (has_bit (word_at words k)) bit

pub window_even : (words : List ℕ) (place j : ℕ) → place < 64 * length words → place % 64 ≡ 0 → j < 64
    → has_bit (slice_index words (place / 64) / 2 ^ (place % 64)) j ≡ packed_bit words ((place + j) % (64 * length words))
window_even words place j in_ even h =
    let w = word_at words (place / 64) in
    let stays : (place + j) % (64 * length words) ≡ place + j = mod-eq_of_lt (omega arith) in
    shr_bit w (place % 64) j ∙ ap (has_bit w) (omega arith)
    ∙ sym (packed_at words (place + j) (place / 64) j (omega arith) h) ∙ ap (packed_bit words) (sym stays)

pub window_odd : (words : List ℕ) (place next j : ℕ) → place < 64 * length words → 0 < place % 64 → j < 64
    → ((place / 64 + 1 ≡ length words) × (next ≡ 0)) ⊎ ((place / 64 + 1 ≢ length words) × (next ≡ place / 64 + 1)) → slice_index words (place / 64) < 2 ^ 64
    → has_bit (bit_or (slice_index words (place / 64) / 2 ^ (place % 64)) (slice_index words next * 2 ^ (64 - place % 64) % 2 ^ 64)) j ≡ packed_bit words ((place + j) % (64 * length words))
window_odd words place next j in_ odd h is fits =
    let s = place % 64 in
    let k = place / 64 in
    let room = 64 * length words in
    let w = word_at words k in
    let v = word_at words next in
    let both = or_bit (w / 2 ^ s) (v * 2 ^ (64 - s) % 2 ^ 64) j in
    ⊎_elim
    (λ (low : s + j < 64).
    let stays : (place + j) % room ≡ place + j = mod-eq_of_lt (omega arith) in
    both ∙ ap (λ b. has_bit (w / 2 ^ s) j || b) (shl_low v (64 - s) j h (omega arith)) ∙ or_false (has_bit (w / 2 ^ s) j)
    ∙ shr_bit w s j ∙ sym (packed_at words (place + j) k (s + j) (omega arith) low) ∙ ap (packed_bit words) (sym stays))
    (λ (high : 64 ≤ s + j).
    let shifted_in : has_bit (v * 2 ^ (64 - s) % 2 ^ 64) j ≡ has_bit v (j - (64 - s)) = shl_high v (64 - s) j h (omega arith) in
    let none : has_bit (w / 2 ^ s) j ≡ false = shr_bit w s j ∙ above w (s + j) fits high in
    let at : (place + j) % room ≡ 64 * next + (j - (64 - s)) =
    ⊎_elim
    (λ last.
    let i = place + j - room in
    let round : place + j ≡ room + i = omega arith in
    let same : (room + i) % room ≡ i = add-mod_left room i ∙ mod-eq_of_lt (omega arith) in
    ap (λ (n : ℕ). n % room) round ∙ same ∙ omega arith)
    (λ more.
    let stays : (place + j) % room ≡ place + j = mod-eq_of_lt (omega arith) in
    omega arith)
    is in
    both ∙ ap (λ b. b || has_bit (v * 2 ^ (64 - s) % 2 ^ 64) j) none ∙ shifted_in
    ∙ sym (packed_at words ((place + j) % room) next (j - (64 - s)) at (omega arith)))
    (cases_lt (s + j) 64)
  where
    or_false : (b : Bool) → (b || false) ≡ b
    or_false true = refl
    or_false false = refl

pub low_bits : (word n j : ℕ) → n < 64 → j < 64 → has_bit (bit_and word (1 * 2 ^ n % 2 ^ 64 - 1)) j ≡ if nat_lt j n then has_bit word j else false
unfolding has_bit
low_bits word n j small h =
    let mask : 1 * 2 ^ n % 2 ^ 64 - 1 ≡ 2 ^ n - 1 = ap (λ (m : ℕ). m - 1) (one_shl n 64 small) in
    let both = ap (λ (m : ℕ). test (bit_at (bit_and word m) j)) mask ∙ ap test (bit_at_and word (2 ^ n - 1) j) in
    ⊎_elim
    (λ (low : j < n).
    let is : nat_lt j n ≡ true = grind (arith, nat_tests) in
    let one : min (bit_at word j) (bit_at (2 ^ n - 1) j) ≡ bit_at word j = omega (arith, bit_at_ones n j low, bit_at-lt word j) in
    rw is (both ∙ ap test one))
    (λ (high : n ≤ j).
    let is : nat_lt j n ≡ false = grind (arith, nat_tests) in
    let none : min (bit_at word j) (bit_at (2 ^ n - 1) j) ≡ 0 = omega (arith, bit_at_ones_above n j high) in
    rw is (both ∙ ap test none))
    (cases_lt j n)
