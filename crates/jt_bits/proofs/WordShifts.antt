-- A list of bits that is shifted by many places at once.
use Rattle.std.proofs.Common.{◌≡◌, ◌≢◌, ℕ, ◌+◌, ◌-◌, ◌*◌, ◌%◌, ◌^◌, ◌<◌, ◌≤◌, ⊎_elim, Bool, true, false, ◌||◌, nat_lt, if◌then◌else◌, List, [], ◌∷◌, ◌++◌, length, take, drop, get_or, refl, sym, ap, subst, ◌∙◌, arith, append_assoc}
use Rattle.std.specs.Int.Bits.{bit_or}
use Rattle.std.proofs.Math.Nat.{mod-add-mod, mod-lt}
use Rattle.std.proofs.Math.Seq.{get_or-append_right}
use Rattle.std.proofs.lemmas.Bool.{cases_lt}
use Rattle.std.proofs.lemmas.Bool.Decides.{nat_tests}
use Rattle.std.proofs.lemmas.List.{get_or-take, get_or-drop, get_or_append_left, length-take, length-append, length-drop}
use Rattle.std.proofs.lemmas.List.FromFn.{get_or-map-range_with_len, length-map-range_with_len}
use Rattle.jt_bits.specs.Packed.{has_bit, packed_bit, bits_in_words, RunPut}
use Rattle.jt_bits.specs.Shifting.{after_shifts}
use Rattle.jt_bits.specs.Words.{word_bits}
use Rattle.jt_bits.proofs.PackedWords.{ring_apart, listed-length, listed-get, is_listed, or_bit, shl_low, shl_high}
use Rattle.jt_bits.proofs.Runs.{same_list}

-- some places on, and then some more, each less than a round
ring_on : (room from a j : ℕ) → from < room → a ≤ room → j ≤ room → ((from + a) % room + j) % room ≡ (from + (a + j)) % room
ring_on room from a j f h k =
    mod-add-mod (from + a) room j ∙ ap (λ (m : ℕ). m % room) (omega arith)

-- two places less than a round apart
apart_on : (room from a b : ℕ) → from < room → a < b → b < a + room → (from + a) % room ≢ (from + b) % room
apart_on room from a b f less near = λ same.
    let p = (from + a) % room in
    let there : (p + (b - a)) % room ≡ (from + b) % room = mod-add-mod (from + a) room (b - a) ∙ ap (λ (m : ℕ). m % room) (omega arith) in
    let here : (p + 0) % room ≡ p = mod-add-mod (from + a) room 0 ∙ ap (λ (m : ℕ). m % room) (omega arith) in
    ring_apart room p 0 (b - a) (mod-lt (from + a) (omega arith)) (omega arith) (omega arith) (omega arith) (here ∙ same ∙ sym there)

-- ---- what leaves

-- the bits that stood there, up to the end of the list
pub held_bit : (words : List ℕ) (start len whole held j : ℕ) → j < 64
    → ((i : ℕ) → i < 64 → has_bit whole i ≡ packed_bit words ((start + i) % (64 * length words)))
    → ((i : ℕ) → i < 64 → has_bit held i ≡ if nat_lt i len then has_bit whole i else false)
    → has_bit held j ≡ if nat_lt j len then packed_bit words ((start + j) % (64 * length words)) else false
held_bit words start len whole held j h window lowest = lowest j h ∙ ap (λ (b : Bool). if nat_lt j len then b else false) (window j h)

-- and behind them those that are shifted in
pub out_bit : (words : List ℕ) (start len bits whole held j : ℕ) → len < 64 → j < 64
    → ((i : ℕ) → i < 64 → has_bit whole i ≡ packed_bit words ((start + i) % (64 * length words)))
    → ((i : ℕ) → i < 64 → has_bit held i ≡ if nat_lt i len then has_bit whole i else false)
    → has_bit (bit_or held (bits * 2 ^ len % 2 ^ 64)) j
    ≡ if nat_lt j len then packed_bit words ((start + j) % (64 * length words)) else has_bit bits (j - len)
out_bit words start len bits whole held j short h window lowest =
    let both = or_bit held (bits * 2 ^ len % 2 ^ 64) j in
    let stands = held_bit words start len whole held j h window lowest in
    ⊎_elim
    (λ (low : j < len).
    let t : nat_lt j len ≡ true = grind (arith, nat_tests) in
    let at : has_bit held j ≡ packed_bit words ((start + j) % (64 * length words)) = stands ∙ rw t refl in
    both ∙ ap (λ (b : Bool). has_bit held j || b) (shl_low bits len j h low) ∙ or_false (has_bit held j) ∙ at ∙ rw t refl)
    (λ (high : len ≤ j).
    let t : nat_lt j len ≡ false = grind (arith, nat_tests) in
    let none : has_bit held j ≡ false = stands ∙ rw t refl in
    both ∙ ap (λ (b : Bool). b || has_bit (bits * 2 ^ len % 2 ^ 64) j) none ∙ shl_high bits len j h high ∙ rw t refl)
    (cases_lt j len)
  where
    or_false : (b : Bool) → (b || false) ≡ b
    or_false true = refl
    or_false false = refl

-- a list of 64 bits or more lets none of those out that are shifted in
pub long_bit : (words : List ℕ) (start len bits whole held j : ℕ) → 64 ≤ len → j < 64
    → ((i : ℕ) → i < 64 → has_bit whole i ≡ packed_bit words ((start + i) % (64 * length words)))
    → ((i : ℕ) → i < 64 → has_bit held i ≡ if nat_lt i len then has_bit whole i else false)
    → has_bit held j ≡ if nat_lt j len then packed_bit words ((start + j) % (64 * length words)) else has_bit bits (j - len)
long_bit words start len bits whole held j long h window lowest =
    let t : nat_lt j len ≡ true = grind (arith, nat_tests) in
    held_bit words start len whole held j h window lowest ∙ rw t refl

-- ---- as lists

pub length-word : (word n : ℕ) → length (word_bits word n) ≡ n
unfolding word_bits
length-word word n = length-map-range_with_len (has_bit word) 0 n

pub get-word : (word n j : ℕ) → j < n → get_or (word_bits word n) j false ≡ has_bit word j
unfolding word_bits
get-word word n j h = get_or-map-range_with_len (has_bit word) 0 n j j false h (omega arith)

-- the bits of the list and behind them those that are shifted in
passing_bit : (words : List ℕ) (start len bits n i : ℕ) → i < len + n
    → get_or (bits_in_words words start len ++ word_bits bits n) i false
    ≡ if nat_lt i len then packed_bit words ((start + i) % (64 * length words)) else has_bit bits (i - len)
passing_bit words start len bits n i h =
    let list = bits_in_words words start len in
    let long : length list ≡ len = listed-length words start len in
    ⊎_elim
    (λ (low : i < len).
    let t : nat_lt i len ≡ true = grind (arith, nat_tests) in
    get_or_append_left list (word_bits bits n) false i (omega (arith, long)) ∙ listed-get words start len i false low ∙ rw t refl)
    (λ (high : len ≤ i).
    let t : nat_lt i len ≡ false = grind (arith, nat_tests) in
    get_or-append_right list (word_bits bits n) i false (omega (arith, long)) ∙ ap (λ (k : ℕ). get_or (word_bits bits n) (i - k) false) long
    ∙ get-word bits n (i - len) (omega arith) ∙ rw t refl)
    (cases_lt i len)

pub word_left : (words : List ℕ) (start len bits n out : ℕ)
    → ((j : ℕ) → j < n → has_bit out j ≡ if nat_lt j len then packed_bit words ((start + j) % (64 * length words)) else has_bit bits (j - len))
    → word_bits out n ≡ take n (bits_in_words words start len ++ word_bits bits n)
word_left words start len bits n out each =
    let list = bits_in_words words start len in
    let all = length-append list (word_bits bits n) in
    let cut = length-take n (list ++ word_bits bits n) in
    same_list (word_bits out n) (take n (list ++ word_bits bits n))
    (length-word out n ∙ omega (arith, all, cut, length-word bits n))
    (λ i h.
    let less : i < n = omega (arith, h, cut) in
    get-word out n i less ∙ each i less ∙ sym (passing_bit words start len bits n i (omega arith))
    ∙ sym (get_or-take n (list ++ word_bits bits n) i false less))

pub word_stays : (old new : List ℕ) (start len bits n : ℕ) → length new ≡ length old → len ≤ 64 * length old → start < 64 * length old → n ≤ 64 * length old
    → RunPut old new ((start + len) % (64 * length old)) bits n
    → bits_in_words new ((start + n) % (64 * length old)) len ≡ drop n (bits_in_words old start len ++ word_bits bits n)
word_stays old new start len bits n same in_ s few put =
    let room = 64 * length old in
    let list = bits_in_words old start len in
    let all = length-append list (word_bits bits n) in
    let cut = length-drop n (list ++ word_bits bits n) in
    is_listed new ((start + n) % room) len (drop n (list ++ word_bits bits n))
    (omega (arith, all, cut, length-word bits n, listed-length old start len))
    (λ i h.
    let there : get_or (drop n (list ++ word_bits bits n)) i false ≡ if nat_lt (n + i) len then packed_bit old ((start + (n + i)) % room) else has_bit bits ((n + i) - len) =
    get_or-drop n (list ++ word_bits bits n) i false ∙ passing_bit old start len bits n (n + i) (omega arith) in
    let here : (at : ℕ) → at ≡ (start + (n + i)) % room → packed_bit new at ≡ if nat_lt (n + i) len then packed_bit old ((start + (n + i)) % room) else has_bit bits ((n + i) - len) =
    λ at is. ⊎_elim
    (λ (low : n + i < len).
    let t : nat_lt (n + i) len ≡ true = grind (arith, nat_tests) in
    put.others at (λ j less e.
    apart_on room start (n + i) (len + j) s (omega arith) (omega arith) (sym is ∙ e ∙ ring_on room start len j s (omega arith) (omega arith)))
    ∙ ap (packed_bit old) is ∙ rw t refl)
    (λ (high : len ≤ n + i).
    let t : nat_lt (n + i) len ≡ false = grind (arith, nat_tests) in
    let j = n + i - len in
    let e : len + j ≡ n + i = omega arith in
    ap (packed_bit new) (is ∙ ap (λ (k : ℕ). (start + k) % room) (sym e) ∙ sym (ring_on room start len j s (omega arith) (omega arith)))
    ∙ put.here j (omega arith) ∙ rw t refl)
    (cases_lt (n + i) len) in
    there ∙ sym (here (((start + n) % room + i) % (64 * length new)) (ap (λ (k : ℕ). ((start + n) % room + i) % (64 * k)) same ∙ ring_on room start n i s (omega arith) (omega arith))))

-- ---- as so many shifts

pub shifts_are : (bits more : List Bool) → 0 < length bits → after_shifts bits more ≡ drop (length more) (bits ++ more)
shifts_are (b ∷ bits) [] some = end (b ∷ bits)
  where
    end : (xs : List Bool) → xs ≡ xs ++ []
    end [] = refl
    end (x ∷ xs) = ap (λ (l : List Bool). x ∷ l) (end xs)
shifts_are (b ∷ bits) (m ∷ more) some =
    shifts_are (bits ++ m ∷ []) more (omega (arith, length-append bits (m ∷ [])))
    ∙ ap (drop (length more)) (append_assoc bits (m ∷ []) more)
shifts_are [] more some = absurd (omega arith)

-- what is answered, and what the list is then, in the words that were lent
pub word_there : (words lent new after : List ℕ) (start len bits n out : ℕ) (list : List Bool) → bits_in_words words start len ≡ list → lent ≡ words
    → ((j : ℕ) → j < n → has_bit out j ≡ if nat_lt j len then packed_bit lent ((start + j) % (64 * length lent)) else has_bit bits (j - len))
    → word_bits out n ≡ take n (list ++ word_bits bits n)
word_there words lent new after start len bits n out list view same each =
    word_left words start len bits n out
    (subst (λ (ws : List ℕ). (j : ℕ) → j < n → has_bit out j ≡ if nat_lt j len then packed_bit ws ((start + j) % (64 * length ws)) else has_bit bits (j - len)) same each)
    ∙ ap (λ (l : List Bool). take n (l ++ word_bits bits n)) view

pub stays_there : (words lent new after : List ℕ) (start begins len bits n : ℕ) (list : List Bool) → bits_in_words words start len ≡ list → len ≤ 64 * length words → start < 64 * length words → n ≤ 64
    → lent ≡ words → length new ≡ length words → after ≡ new → begins ≡ (start + n) % (64 * length lent) → RunPut lent new ((start + len) % (64 * length lent)) bits n
    → bits_in_words after begins len ≡ drop n (list ++ word_bits bits n)
stays_there words lent new after start begins len bits n list view in_ s few same long is begin put =
    ap (λ (ws : List ℕ). bits_in_words ws begins len) is
    ∙ ap (λ (b : ℕ). bits_in_words new b len) (begin ∙ ap (λ (ws : List ℕ). (start + n) % (64 * length ws)) same)
    ∙ word_stays words new start len bits n long in_ s (omega arith)
    (subst (λ (ws : List ℕ). RunPut ws new ((start + len) % (64 * length ws)) bits n) same put)
    ∙ ap (λ (l : List Bool). drop n (l ++ word_bits bits n)) view
