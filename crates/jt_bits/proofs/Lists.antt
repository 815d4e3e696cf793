-- What each call makes of the list that the packed bits spell.
use Rattle.std.proofs.Common.{◌≡◌, ◌≢◌, ℕ, zero, suc, ◌+◌, ◌-◌, ◌*◌, ◌/◌, ◌%◌, ◌^◌, ◌<◌, ◌≤◌, ⊎_elim, Bool, true, false, ◌==◌, nat_lt, if◌then◌else◌, List, [], ◌∷◌, length, take, drop, set, get_or, replicate, slice_index, slice_get, slice_set, map, Some, refl, sym, ap, subst, ◌∙◌, arith, ◌&&◌}
use Rattle.std.specs.Int.{bit_at, w64, trailing_zeros}
use Rattle.std.specs.Int.Bits.{bit_and, bit_xor}
use Rattle.std.specs.List.{range_with_len}
use Rattle.std.proofs.Math.Nat.{pow-suc, mod-eq_of_lt}
use Rattle.std.proofs.Math.Pow.{pow_mono}
use Rattle.std.proofs.Math.Seq.{get_or-append_right}
use Rattle.std.proofs.lemmas.Bool.{cases_eq, cases_lt}
use Rattle.std.proofs.lemmas.Bool.Decides.{nat_tests}
use Rattle.std.proofs.lemmas.Nat.Bits.{bit_at-lt, bit_at_ones, bit_at-zero, bit_at_lowest, bit_at-suc, bit_at_xor, bit_at-trailing_zeros, same_from_bits_below}
use Rattle.std.proofs.lemmas.List.{get_or-set_same, get_or-set_other, get_or-replicate, get_or-take, get_or-drop, get_or_append_left, get_or_past, length-take, length-replicate, length-append, length-set, length-drop}
use Rattle.std.proofs.lemmas.List.FromFn.{get_or-map-range_with_len, length-map-range_with_len}
use Rattle.std.proofs.lemmas.Option.{slice_get-get_or, unwrap_or-slice_get}
use Rattle.jt_bits.specs.Lengths.{resized}
use Rattle.jt_bits.specs.Packed.{has_bit, packed_bit, bits_in_words}
use Rattle.jt_bits.specs.Shifting.{after_shift}
use Rattle.jt_bits.specs.Words.{bit_of, number, word_of, word_from, differ, is_bad_at, is_bad_bit, IsFirst}
use Rattle.jt_bits.proofs.PackedWords.{ring, ring_below, ring_apart, ring_distinct, ring_next, ring_add, listed-length, listed-get, is_listed, packed_at, and_bit}

-- one value everywhere
pub same_everywhere : (words : List ℕ) (len : ℕ) (bit : Bool) → len ≤ 64 * length words → ((p : ℕ) → p < 64 * length words → packed_bit words p ≡ bit)
    → bits_in_words words 0 len ≡ replicate len bit
same_everywhere words len bit room each =
    is_listed words 0 len (replicate len bit) (length-replicate len bit)
    (λ i h. get_or-replicate len i bit false h ∙ sym (each ((0 + i) % (64 * length words)) (ring_below (64 * length words) 0 i (omega arith) (omega arith))))

filled_at : (n w p : ℕ) → p < 64 * n → packed_bit (replicate n w) p ≡ has_bit w (p % 64)
unfolding packed_bit
filled_at n w p h = ap (λ (x : ℕ). has_bit x (p % 64)) (get_or-replicate n (p / 64) w 0 (omega arith))

nothing : (j : ℕ) → has_bit 0 j ≡ false
unfolding has_bit
nothing j = ap (λ (n : ℕ). n == 1) (bit_at-zero j)

everything : (j : ℕ) → j < 64 → has_bit (2 ^ 64 - 1) j ≡ true
unfolding has_bit
everything j h = ap (λ (n : ℕ). n == 1) (bit_at_ones 64 j h)

filled : (n w len : ℕ) (words : List ℕ) (bit : Bool) → words ≡ replicate n w → len ≤ 64 * n → ((j : ℕ) → j < 64 → has_bit w j ≡ bit) → bits_in_words words 0 len ≡ replicate len bit
filled n w len words bit are room each =
    let many : length words ≡ n = ap length are ∙ length-replicate n w in
    same_everywhere words len bit (omega arith)
    (λ p h. ap (λ (ws : List ℕ). packed_bit ws p) are ∙ filled_at n w p (omega arith) ∙ each (p % 64) (omega arith))

pub zeros_listed : (n len : ℕ) (words : List ℕ) → words ≡ replicate n 0 → len ≤ 64 * n → bits_in_words words 0 len ≡ replicate len false
zeros_listed n len words are room = filled n 0 len words false are room (λ j h. nothing j)

pub ones_listed : (n len : ℕ) (words : List ℕ) → words ≡ replicate n (2 ^ 64 - 1) → len ≤ 64 * n → bits_in_words words 0 len ≡ replicate len true
ones_listed n len words are room = filled n (2 ^ 64 - 1) len words true are room everything

pub got : (words : List ℕ) (start len i : ℕ) → i < len → slice_get (bits_in_words words start len) i ≡ Some (packed_bit words ((start + i) % (64 * length words)))
got words start len i h =
    slice_get-get_or (bits_in_words words start len) i false (omega (arith, listed-length words start len)) ∙ ap Some (listed-get words start len i false h)

-- what a list with one bit put there is
abbrev put_at : List ℕ → ℕ → Bool → ℕ → Bool
put_at words place bit q = if q == place then bit else packed_bit words q

put_here : (words : List ℕ) (place q : ℕ) (bit : Bool) → q ≡ place → put_at words place bit q ≡ bit
put_here words place q bit e = let t : (q == place) ≡ true = grind (arith, nat_tests) in rw t refl

put_elsewhere : (words : List ℕ) (place q : ℕ) (bit : Bool) → q ≢ place → put_at words place bit q ≡ packed_bit words q
put_elsewhere words place q bit e = let t : (q == place) ≡ false = grind (arith, nat_tests) in rw t refl

pub bit_put : (old new : List ℕ) (start len i : ℕ) (bit : Bool) → length new ≡ length old → len ≤ 64 * length old → start < 64 * length old → i < len
    → ((q : ℕ) → packed_bit new q ≡ if q == (start + i) % (64 * length old) then bit else packed_bit old q)
    → bits_in_words new start len ≡ slice_set (bits_in_words old start len) i bit
bit_put old new start len i bit same in_ s h put =
    let room = 64 * length old in
    let old_list = bits_in_words old start len in
    let is_long = listed-length old start len in
    let place : ℕ → ℕ = λ k. (start + k) % room in
    is_listed new start len (set old_list i bit) (length-set old_list i bit ∙ is_long)
    (λ k low.
    let moved : packed_bit new ((start + k) % (64 * length new)) ≡ put_at old (place i) bit (place k) =
    ap (λ (n : ℕ). packed_bit new ((start + k) % (64 * n))) same ∙ put (place k) in
    ⊎_elim
    (λ (e : k ≡ i).
    ap (λ (n : ℕ). get_or (set old_list i bit) n false) e ∙ get_or-set_same old_list i bit false (omega (arith, is_long))
    ∙ sym (moved ∙ put_here old (place i) (place k) bit (ap place e)))
    (λ apart.
    get_or-set_other old_list i k bit false apart ∙ listed-get old start len k false low
    ∙ sym (moved ∙ put_elsewhere old (place i) (place k) bit (ring_distinct room start k i s (omega arith) (omega arith) apart)))
    (cases_eq k i))

pub bit_shifted : (old new : List ℕ) (start len : ℕ) (bit : Bool) → length new ≡ length old → len ≤ 64 * length old → start < 64 * length old → 0 < len
    → ((q : ℕ) → packed_bit new q ≡ if q == (start + len) % (64 * length old) then bit else packed_bit old q)
    → bits_in_words new ((start + 1) % (64 * length old)) len ≡ after_shift (bits_in_words old start len) bit
bit_shifted old new start len bit same in_ s some put =
    let room = 64 * length old in
    let bits = bits_in_words old start len in
    let is_long : length bits ≡ len = listed-length old start len in
    let rest : length (drop 1 bits) ≡ len - 1 = length-drop 1 bits ∙ omega arith in
    let place : ℕ → ℕ = λ k. (start + k) % room in
    is_listed new ((start + 1) % room) len (after_shift bits bit) (length-append (drop 1 bits) (bit ∷ []) ∙ omega arith)
    (λ k low.
    let moved : packed_bit new (((start + 1) % room + k) % (64 * length new)) ≡ put_at old (place len) bit (place (suc k)) =
    ap (λ (n : ℕ). packed_bit new (((start + 1) % room + k) % (64 * n))) same
    ∙ ap (packed_bit new) (ring_next room start k s (omega arith)) ∙ put (place (suc k)) in
    ⊎_elim
    (λ (less : k < len - 1).
    get_or_append_left (drop 1 bits) (bit ∷ []) false k (omega arith) ∙ get_or-drop 1 bits k false ∙ ap (λ (n : ℕ). get_or bits n false) (omega arith)
    ∙ listed-get old start len (suc k) false (omega arith)
    ∙ sym (moved ∙ put_elsewhere old (place len) (place (suc k)) bit (ring_apart room start (suc k) len s (omega arith) in_ (omega arith))))
    (λ (last : len - 1 ≤ k).
    let at : k - length (drop 1 bits) ≡ 0 = omega arith in
    let end : suc k ≡ len = omega arith in
    get_or-append_right (drop 1 bits) (bit ∷ []) k false (omega arith) ∙ ap (λ (n : ℕ). get_or (bit ∷ []) n false) at
    ∙ sym (moved ∙ put_here old (place len) (place (suc k)) bit (ap place end)))
    (cases_lt k (len - 1)))

-- ---- words as numbers

abbrev one_or_zero : Bool → ℕ
one_or_zero b = if b then 1 else 0

lowest_first : (b : Bool) (n : ℕ) → (one_or_zero b + 2 * n) % 2 ≡ one_or_zero b
lowest_first true n = omega arith
lowest_first false n = omega arith

half : (b : Bool) (n : ℕ) → (one_or_zero b + 2 * n) / 2 ≡ n
half true n = omega arith
half false n = omega arith

number_bit : (bits : List Bool) (i : ℕ) → bit_at (number bits) i ≡ one_or_zero (get_or bits i false)
number_bit [] i = bit_at-zero i
number_bit (b ∷ bits) zero = bit_at_lowest (one_or_zero b + 2 * number bits) ∙ lowest_first b (number bits)
number_bit (b ∷ bits) (suc i) =
    bit_at-suc (one_or_zero b + 2 * number bits) i ∙ ap (λ (n : ℕ). bit_at n i) (half b (number bits)) ∙ number_bit bits i

number_below : (bits : List Bool) → number bits < 2 ^ length bits
number_below [] = omega arith
number_below (true ∷ bits) = let h = number_below bits in omega (arith, pow-suc 2 (length bits))
number_below (false ∷ bits) = let h = number_below bits in omega (arith, pow-suc 2 (length bits))

test_one : (b : Bool) → (one_or_zero b == 1) ≡ b
test_one true = refl
test_one false = refl

by_test : (n : ℕ) (b : Bool) → n < 2 → (n == 1) ≡ b → n ≡ one_or_zero b
by_test zero b h e = ap one_or_zero e
by_test (suc zero) b h e = ap one_or_zero e
by_test (suc (suc n)) b h e = absurd (omega arith)

get_or-part : (bits : List Bool) (m j : ℕ) → j < 64 → get_or (take 64 (drop m bits)) j false ≡ get_or bits (m + j) false
get_or-part bits m j h = get_or-take 64 (drop m bits) j false h ∙ get_or-drop m bits j false

pub has_bit-word : (bits : List Bool) (k j : ℕ) → j < 64 → has_bit (word_of bits k) j ≡ get_or bits (64 * k + j) false
unfolding has_bit word_of word_from
has_bit-word bits k j h =
    let part = take 64 (drop (64 * k) bits) in
    ap (λ (n : ℕ). n == 1) (number_bit part j) ∙ test_one (get_or part j false) ∙ get_or-part bits (64 * k) j h

pub word_is_at : (bits : List Bool) (i x : ℕ) → x < 2 ^ 64 → ((j : ℕ) → j < 64 → has_bit x j ≡ get_or bits (i + j) false) → x ≡ word_from bits i
unfolding has_bit word_from
word_is_at bits i x fits each =
    let part = take 64 (drop i bits) in
    let short : length part ≤ 64 = omega (arith, length-take 64 (drop i bits)) in
    let below : number part < 2 ^ 64 = omega (arith, number_below part, pow_mono {i = length part} {j = 64} short) in
    same_from_bits_below 64 x (number part) fits below
    (λ j h.
    by_test (bit_at x j) (get_or bits (i + j) false) (bit_at-lt x j) (each j h)
    ∙ ap one_or_zero (sym (get_or-part bits i j h)) ∙ sym (number_bit part j))

word_of-from : (bits : List Bool) (k : ℕ) → word_from bits (64 * k) ≡ word_of bits k
unfolding word_from word_of
word_of-from bits k = refl

pub word_is : (bits : List Bool) (k x : ℕ) → x < 2 ^ 64 → ((j : ℕ) → j < 64 → has_bit x j ≡ get_or bits (64 * k + j) false) → x ≡ word_of bits k
word_is bits k x fits each = word_is_at bits (64 * k) x fits each ∙ word_of-from bits k

pub no_word : (bits : List Bool) (k : ℕ) → length bits ≤ 64 * k → 0 ≡ word_of bits k
no_word bits k past =
    word_is bits k 0 (omega arith) (λ j h. nothing j ∙ sym (get_or_past bits (64 * k + j) false (omega arith)))

pub nothing_past : (bits : List Bool) (i : ℕ) → length bits ≤ i → (j : ℕ) → j < 64 → has_bit 0 j ≡ bit_of bits (i + j)
nothing_past bits i past j h = nothing j ∙ sym (unwrap_or-slice_get bits (i + j) false ∙ get_or_past bits (i + j) false (omega arith))

pub no_word_at : (bits : List Bool) (i : ℕ) → length bits ≤ i → 0 ≡ word_from bits i
no_word_at bits i past =
    word_is_at bits i 0 (omega arith) (λ j h. nothing j ∙ sym (get_or_past bits (i + j) false (omega arith)))

-- the lowest bits of a window, as many as there are from a place of the list on
pub bits_from : (words : List ℕ) (start len i from whole low : ℕ) → len ≤ 64 * length words → start < 64 * length words → i ≤ len
    → from ≡ (start + i) % (64 * length words)
    → ((j : ℕ) → j < 64 → has_bit whole j ≡ packed_bit words ((from + j) % (64 * length words)))
    → ((j : ℕ) → j < 64 → has_bit low j ≡ if nat_lt j (len - i) then has_bit whole j else false)
    → (j : ℕ) → j < 64 → has_bit low j ≡ get_or (bits_in_words words start len) (i + j) false
bits_from words start len i from whole low in_ s some at window lowest j h =
    let room = 64 * length words in
    let bits = bits_in_words words start len in
    let is_long : length bits ≡ len = listed-length words start len in
    ⊎_elim
    (λ (less : j < len - i).
    let t : nat_lt j (len - i) ≡ true = grind (arith, nat_tests) in
    lowest j h ∙ rw t (window j h) ∙ ap (λ (p : ℕ). packed_bit words ((p + j) % room)) at
    ∙ ap (packed_bit words) (ring_add room start i j s (omega arith))
    ∙ sym (listed-get words start len (i + j) false (omega arith)))
    (λ (past : len - i ≤ j).
    let t : nat_lt j (len - i) ≡ false = grind (arith, nat_tests) in
    lowest j h ∙ rw t refl ∙ sym (get_or_past bits (i + j) false (omega arith)))
    (cases_lt j (len - i))

pub word_from_packed : (words : List ℕ) (start len k from whole low : ℕ) → len ≤ 64 * length words → start < 64 * length words → k < length words → 64 * k ≤ len
    → from ≡ (start + 64 * k) % (64 * length words) → low < 2 ^ 64
    → ((j : ℕ) → j < 64 → has_bit whole j ≡ packed_bit words ((from + j) % (64 * length words)))
    → ((j : ℕ) → j < 64 → has_bit low j ≡ if nat_lt j (len - 64 * k) then has_bit whole j else false)
    → low ≡ word_of (bits_in_words words start len) k
word_from_packed words start len k from whole low in_ s inside some at fits window lowest =
    word_is (bits_in_words words start len) k low fits (bits_from words start len (64 * k) from whole low in_ s some at window lowest)

-- words put one behind the other
pub words_listed : (bits : List Bool) (words : List ℕ) (count len : ℕ) → words ≡ map (word_of bits) (range_with_len 0 count) → len ≤ 64 * count
    → bits_in_words words 0 len ≡ resized len bits
words_listed bits words count len are room =
    let many : length words ≡ count = ap length are ∙ length-map-range_with_len (word_of bits) 0 count in
    let kept = take len bits in
    let filled = replicate (len - length bits) false in
    let kept_long = length-take len bits in
    is_listed words 0 len (resized len bits) (length-append kept filled ∙ omega (arith, kept_long, length-replicate (len - length bits) false))
    (λ i h.
    let place = (0 + i) % (64 * length words) in
    let at : place ≡ 64 * (i / 64) + i % 64 = ⊎_elim (λ a. omega arith) (λ a. omega arith) (ring (64 * length words) 0 i (omega arith) (omega arith)) in
    let word : slice_index words (i / 64) ≡ word_of bits (i / 64) =
    ap (λ (ws : List ℕ). get_or ws (i / 64) 0) are ∙ get_or-map-range_with_len (word_of bits) 0 count (i / 64) (i / 64) 0 (omega arith) (omega arith) in
    let packed : packed_bit words place ≡ get_or bits i false =
    packed_at words place (i / 64) (i % 64) at (omega arith) ∙ ap (λ (w : ℕ). has_bit w (i % 64)) word ∙ has_bit-word bits (i / 64) (i % 64) (omega arith)
    ∙ ap (λ (n : ℕ). get_or bits n false) (omega arith) in
    ⊎_elim
    (λ (less : i < length bits).
    get_or_append_left kept filled false i (omega (arith, kept_long)) ∙ get_or-take len bits i false h ∙ sym packed)
    (λ (past : length bits ≤ i).
    get_or-append_right kept filled i false (omega (arith, kept_long))
    ∙ get_or-replicate (len - length bits) (i - length kept) false false (omega (arith, kept_long))
    ∙ sym (packed ∙ get_or_past bits i false past))
    (cases_lt i (length bits)))

-- what was read at the place of a bit
pub got_there : (words lent : List ℕ) (start len i place n : ℕ) (bits : List Bool) (r : Bool) → bits_in_words words start len ≡ bits → i < len
    → r ≡ packed_bit lent place → lent ≡ words → place ≡ (start + i) % (64 * n) → n ≡ length words → slice_get bits i ≡ Some r
got_there words lent start len i place n bits r view h is same at many =
    ap (λ (b : List Bool). slice_get b i) (sym view) ∙ got words start len i h
    ∙ ap Some (sym (is ∙ ap (λ (w : List ℕ). packed_bit w place) same ∙ ap (packed_bit words) (at ∙ ap (λ (m : ℕ). (start + i) % (64 * m)) many)))

same_place : (s i place n m : ℕ) → place ≡ (s + i) % (64 * n) → n ≡ m → place ≡ (s + i) % (64 * m)
same_place s i place n m e many = e ∙ ap (λ (k : ℕ). (s + i) % (64 * k)) many

abbrev Put : (old new : List ℕ) → ℕ → Bool → Type 0
Put old new place bit = (q : ℕ) → packed_bit new q ≡ if q == place then bit else packed_bit old q

same_put : (old lent new : List ℕ) (place at : ℕ) (bit : Bool) → lent ≡ old → place ≡ at → Put lent new place bit → Put old new at bit
same_put old lent new place at bit same e put =
    subst (λ (p : ℕ). Put old new p bit) e (subst (λ (ws : List ℕ). Put ws new place bit) same put)

pub set_there : (words lent new after : List ℕ) (start len i place n : ℕ) (bits : List Bool) (bit : Bool) → bits_in_words words start len ≡ bits → i < len → len ≤ 64 * length words → start < 64 * length words
    → lent ≡ words → length new ≡ length words → after ≡ new → place ≡ (start + i) % (64 * n) → n ≡ length words
    → ((q : ℕ) → packed_bit new q ≡ if q == place then bit else packed_bit lent q) → bits_in_words after start len ≡ slice_set bits i bit
set_there words lent new after start len i place n bits bit view h in_ s same long is at many put =
    ap (λ (ws : List ℕ). bits_in_words ws start len) is
    ∙ bit_put words new start len i bit long in_ s h (same_put words lent new place ((start + i) % (64 * length words)) bit same (same_place start i place n (length words) at many) put)
    ∙ ap (λ (b : List Bool). slice_set b i bit) view

pub shifted_there : (words lent new after : List ℕ) (start next len place n : ℕ) (bits : List Bool) (bit : Bool) → bits_in_words words start len ≡ bits → 0 < len → len ≤ 64 * length words → start < 64 * length words
    → lent ≡ words → length new ≡ length words → after ≡ new → place ≡ (start + len) % (64 * n) → next ≡ (start + 1) % (64 * n) → n ≡ length words
    → ((q : ℕ) → packed_bit new q ≡ if q == place then bit else packed_bit lent q) → bits_in_words after next len ≡ after_shift bits bit
shifted_there words lent new after start next len place n bits bit view h in_ s same long is at step many put =
    ap (λ (ws : List ℕ). bits_in_words ws next len) is
    ∙ ap (λ (k : ℕ). bits_in_words new k len) (same_place start 1 next n (length words) step many)
    ∙ bit_shifted words new start len bit long in_ s h (same_put words lent new place ((start + len) % (64 * length words)) bit same (same_place start len place n (length words) at many) put)
    ∙ ap (λ (b : List Bool). after_shift b bit) view

pub at_start : (start n : ℕ) → start < 64 * n → start ≡ (start + 0) % (64 * n)
at_start start n h =
    let same : start + 0 ≡ start = omega arith in
    sym (mod-eq_of_lt {n = start} {m = 64 * n} h) ∙ ap (λ (k : ℕ). k % (64 * n)) (sym same)

pub word_there : (words lent : List ℕ) (start len k from whole low n : ℕ) (bits : List Bool) → bits_in_words words start len ≡ bits → len ≤ 64 * length words → start < 64 * length words → k < length words → 64 * k ≤ len
    → from ≡ (start + 64 * k) % (64 * n) → n ≡ length words → lent ≡ words → low < 2 ^ 64
    → ((j : ℕ) → j < 64 → has_bit whole j ≡ packed_bit lent ((from + j) % (64 * length lent)))
    → ((j : ℕ) → j < 64 → has_bit low j ≡ if nat_lt j (len - 64 * k) then has_bit whole j else false)
    → low ≡ word_of bits k
word_there words lent start len k from whole low n bits view in_ s inside some at many same fits window lowest =
    word_from_packed words start len k from whole low in_ s inside some (same_place start (64 * k) from n (length words) at many) fits
    (λ j h. window j h ∙ ap (λ (ws : List ℕ). packed_bit ws ((from + j) % (64 * length ws))) same) lowest
    ∙ ap (λ (b : List Bool). word_of b k) view

pub bits_there : (words lent : List ℕ) (start len i from whole low n : ℕ) (bits : List Bool) → bits_in_words words start len ≡ bits → len ≤ 64 * length words → start < 64 * length words → i ≤ len
    → from ≡ (start + i) % (64 * n) → n ≡ length words → lent ≡ words
    → ((j : ℕ) → j < 64 → has_bit whole j ≡ packed_bit lent ((from + j) % (64 * length lent)))
    → ((j : ℕ) → j < 64 → has_bit low j ≡ if nat_lt j (len - i) then has_bit whole j else false)
    → (j : ℕ) → j < 64 → has_bit low j ≡ get_or bits (i + j) false
bits_there words lent start len i from whole low n bits view in_ s some at many same window lowest j h =
    bits_from words start len i from whole low in_ s some (same_place start i from n (length words) at many)
    (λ k small. window k small ∙ ap (λ (ws : List ℕ). packed_bit ws ((from + k) % (64 * length ws))) same) lowest j h
    ∙ ap (λ (b : List Bool). get_or b (i + j) false) view

-- ---- where two lists differ

xor_tests : (a b : ℕ) → a < 2 → b < 2 → (((a + b) % 2) == 1) ≡ differ (a == 1) (b == 1)
xor_tests zero zero h k = refl
xor_tests zero (suc zero) h k = refl
xor_tests (suc zero) zero h k = refl
xor_tests (suc zero) (suc zero) h k = refl
xor_tests (suc (suc a)) b h k = absurd (omega arith)
xor_tests zero (suc (suc b)) h k = absurd (omega arith)
xor_tests (suc zero) (suc (suc b)) h k = absurd (omega arith)

xor_bit : (a b j : ℕ) → has_bit (bit_xor a b) j ≡ differ (has_bit a j) (has_bit b j)
unfolding has_bit
xor_bit a b j = ap (λ (n : ℕ). n == 1) (bit_at_xor a b j) ∙ xor_tests (bit_at a j) (bit_at b j) (bit_at-lt a j) (bit_at-lt b j)

pub bit_of-get_or : (bits : List Bool) (i : ℕ) → bit_of bits i ≡ get_or bits i false
bit_of-get_or bits i = unwrap_or-slice_get bits i false

swap_and : (a b : Bool) → (a && b) ≡ (b && a)
swap_and true true = refl
swap_and true false = refl
swap_and false true = refl
swap_and false false = refl

-- the bits of 64 that differ, all at once
pub bad_bit : (got want mask : List Bool) (k g w m j : ℕ) → g ≡ word_of got k → w ≡ word_of want k → m ≡ word_of mask k → j < 64
    → has_bit (bit_and (bit_xor g w) m) j ≡ is_bad_at got want mask (64 * k + j)
bad_bit got want mask k g w m j a b d h =
    let at : (bits : List Bool) (x : ℕ) → x ≡ word_of bits k → has_bit x j ≡ bit_of bits (64 * k + j) =
    λ bits x e. ap (λ (n : ℕ). has_bit n j) e ∙ has_bit-word bits k j h ∙ sym (bit_of-get_or bits (64 * k + j)) in
    and_bit (bit_xor g w) m j ∙ ap (λ (x : Bool). x && has_bit m j) (xor_bit g w j)
    ∙ ap (λ (x : Bool). differ x (has_bit w j) && has_bit m j) (at got g a)
    ∙ ap (λ (x : Bool). differ (bit_of got (64 * k + j)) x && has_bit m j) (at want w b)
    ∙ ap (λ (x : Bool). differ (bit_of got (64 * k + j)) (bit_of want (64 * k + j)) && x) (at mask m d)
    ∙ swap_and (differ (bit_of got (64 * k + j)) (bit_of want (64 * k + j))) (bit_of mask (64 * k + j))

not_past : (got want mask : List Bool) (i : ℕ) → is_bad_at got want mask i ≡ true → i < length mask
not_past got want mask i bad = ⊎_elim (λ less. less)
    (λ past.
    let none : bit_of mask i ≡ false = bit_of-get_or mask i ∙ get_or_past mask i false past in
    absurd (impossible (sym bad ∙ ap (λ (b : Bool). b && differ (bit_of got i) (bit_of want i)) none)))
    (cases_lt i (length mask))
  where
    impossible : true ≡ false → ⊥
    impossible e = cc

abbrev Clean : (got want mask : List Bool) → ℕ → Type 0
Clean got want mask n = (i : ℕ) → i < n → is_bad_at got want mask i ≡ false

pub clean_more : (got want mask : List Bool) (k g w m : ℕ) → g ≡ word_of got k → w ≡ word_of want k → m ≡ word_of mask k → bit_and (bit_xor g w) m ≡ 0
    → Clean got want mask (64 * k) → (i : ℕ) → i < 64 * (k + 1) → is_bad_at got want mask i ≡ false
clean_more got want mask k g w m a b d none before i h = ⊎_elim (λ less. before i less)
    (λ more.
    let j = i - 64 * k in
    let at : 64 * k + j ≡ i = omega arith in
    ap (is_bad_at got want mask) (sym at) ∙ sym (bad_bit got want mask k g w m j a b d (omega arith)) ∙ ap (λ (x : ℕ). has_bit x j) none ∙ nothing j)
    (cases_lt i (64 * k))

pub first_found : (got want mask : List Bool) (k g w m j : ℕ) → length got ≡ length mask → g ≡ word_of got k → w ≡ word_of want k → m ≡ word_of mask k
    → bit_and (bit_xor g w) m ≢ 0 → bit_and (bit_xor g w) m < 2 ^ 64 → j ≡ trailing_zeros w64 (bit_and (bit_xor g w) m)
    → Clean got want mask (64 * k) → (j < 64) × IsFirst (is_bad_at got want mask) (length got) (Some (64 * k + j))
unfolding has_bit
first_found got want mask k g w m j same a b d some fits is before =
    let x = bit_and (bit_xor g w) m in
    let low = bit_at-trailing_zeros w64 x (omega (arith, some)) fits in
    let small : j < 64 = omega (arith, is, low.0) in
    let here : is_bad_at got want mask (64 * k + j) ≡ true = sym (bad_bit got want mask k g w m j a b d small) ∙ one x j (ap (bit_at x) is ∙ low.1) in (
      small,
      (
        omega (arith, not_past got want mask (64 * k + j) here, same),
        here,
        λ i h. ⊎_elim (λ less. before i less)
            (λ more.
            let n = i - 64 * k in
            let at : 64 * k + n ≡ i = omega arith in
            ap (is_bad_at got want mask) (sym at) ∙ sym (bad_bit got want mask k g w m n a b d (omega arith)) ∙ no_one x n (low.2 n (omega (arith, is))))
            (cases_lt i (64 * k)),
      ),
    )
  where
    one : (x j : ℕ) → bit_at x j ≡ 1 → has_bit x j ≡ true
    one x j e = ap (λ (n : ℕ). n == 1) e

    no_one : (x j : ℕ) → bit_at x j ≡ 0 → has_bit x j ≡ false
    no_one x j e = ap (λ (n : ℕ). n == 1) e

-- ---- where two words differ

pub bad_word_bit : (got want mask j : ℕ) → has_bit (bit_and (bit_xor got want) mask) j ≡ is_bad_bit got want mask j
bad_word_bit got want mask j =
    and_bit (bit_xor got want) mask j ∙ ap (λ (x : Bool). x && has_bit mask j) (xor_bit got want j)
    ∙ swap_and (differ (has_bit got j) (has_bit want j)) (has_bit mask j)

pub none_differs : (got want mask : ℕ) → bit_and (bit_xor got want) mask ≡ 0 → (j : ℕ) → j < 64 → is_bad_bit got want mask j ≡ false
none_differs got want mask none j h = sym (bad_word_bit got want mask j) ∙ ap (λ (x : ℕ). has_bit x j) none ∙ nothing j

pub first_differs : (got want mask k : ℕ) → bit_and (bit_xor got want) mask ≢ 0 → bit_and (bit_xor got want) mask < 2 ^ 64 → k ≡ trailing_zeros w64 (bit_and (bit_xor got want) mask)
    → IsFirst (is_bad_bit got want mask) 64 (Some k)
unfolding has_bit
first_differs got want mask k some fits is =
    let x = bit_and (bit_xor got want) mask in
    let low = bit_at-trailing_zeros w64 x (omega (arith, some)) fits in (
      omega (arith, is, low.0),
      sym (bad_word_bit got want mask k) ∙ ap (λ (n : ℕ). n == 1) (ap (bit_at x) is ∙ low.1),
      λ j h. sym (bad_word_bit got want mask j) ∙ ap (λ (n : ℕ). n == 1) (low.2 j (omega (arith, is))),
    )
