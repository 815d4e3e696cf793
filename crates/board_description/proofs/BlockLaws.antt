-- The opcodes of blocks, and the first of them that takes another.
use Rattle.std.proofs.Common.{◌≡◌, ◌≢◌, ℕ, zero, suc, ◌+◌, ◌-◌, ◌<◌, ◌≤◌, ◌^◌, Bool, true, false, not, ◌&&◌, ◌||◌, ◌==◌, cond, bit_and, List, [], ◌∷◌, ◌++◌, length, get_or, set, take, drop, map, Option, Some, None, Result, Ok, Err, refl, sym, ap, ◌∙◌, arith, append_assoc}
use Rattle.std.specs.Prelude.{option_map, slice_get, if◌then◌else◌, IfOk}
use Rattle.std.specs.Int.{bit_at, trailing_zeros, w64}
use Rattle.std.specs.List.{find}
use Rattle.std.proofs.Math.Seq.{map-set_same}
use Rattle.std.proofs.lemmas.List.{append-nil, drop_more, length-map, map-append, set-get_or, take_more, take_more_set}
use Rattle.std.proofs.lemmas.Nat.Bits.{bit_at-trailing_zeros, bit_at-zero, bit_at_ones}
use Rattle.bsdl_device.specs.Device.{Pattern}
use Rattle.jt_bits.specs.Packed.{has_bit}
use Rattle.jt_bits.specs.Words.{IsFirst}
use Rattle.jt_bits.proofs.PackedWords.{and_bit}
use Rattle.board_description.specs.Covered.{takes, takes_bit}
use Rattle.board_description.specs.Blocks.{column_bit, joined, pairs_from, pattern_at, x_taking}
use Rattle.board_description.specs.declared.blocks.Column.{Column}

-- ---- words

pub no_bit : (k : ℕ) → has_bit 0 k ≡ false
unfolding has_bit
no_bit k = ap (λ (n : ℕ). n == 1) (bit_at-zero k)

pub every_bit : (k : ℕ) → k < 64 → has_bit (2 ^ 64 - 1) k ≡ true
unfolding has_bit
every_bit k h = ap (λ (n : ℕ). n == 1) (bit_at_ones 64 k h)

pub lowest_bit : (x : ℕ) → x ≢ 0 → x < 2 ^ 64 → IsFirst (has_bit x) 64 (Some (trailing_zeros w64 x))
unfolding has_bit
lowest_bit x some fits =
    let low = bit_at-trailing_zeros w64 x (omega (arith, some)) fits in
    (low.0, ap (λ (n : ℕ). n == 1) low.1, λ k below. ap (λ (n : ℕ). n == 1) (low.2 k below))

pub bit_is_x : (x one : Bool) → x ≡ takes_bit (if x then None else Some one) None
bit_is_x true one = refl
bit_is_x false true = refl
bit_is_x false false = refl

pub bit_is_one : (x one : Bool) → (x || one) ≡ takes_bit (if x then None else Some one) (Some true)
bit_is_one true one = refl
bit_is_one false true = refl
bit_is_one false false = refl

pub bit_is_zero : (x one : Bool) → (x || not one) ≡ takes_bit (if x then None else Some one) (Some false)
bit_is_zero true one = refl
bit_is_zero false true = refl
bit_is_zero false false = refl

-- ---- which of them take an opcode

both_assoc : (a b c : Bool) → ((a && b) && c) ≡ (a && (b && c))
both_assoc true b c = refl
both_assoc false b c = refl

abbrev pub Takes : (word : ℕ) (rest : List Column) (bits : Pattern) (columns : List Column) (pattern : Pattern) → Type 0
Takes word rest bits columns pattern =
    (k : ℕ) → k < 64 → (has_bit word k && takes (pattern_at rest k) bits) ≡ takes (pattern_at columns k) pattern

pub takes_none : (columns : List Column) (pattern : Pattern) → Takes (2 ^ 64 - 1) columns pattern columns pattern
takes_none columns pattern = λ k h. ap (λ b. b && takes (pattern_at columns k) pattern) (every_bit k h)

pub takes_more : (columns : List Column) (pattern : Pattern) (i word taking : ℕ) (c : Column) (b : Option Bool) → i < length columns → i < length pattern
    → ((k : ℕ) → k < 64 → has_bit taking k ≡ takes_bit (column_bit (get_or columns i c) k) (get_or pattern i b))
    → Takes word (drop i columns) (drop i pattern) columns pattern → Takes (bit_and word taking) (drop (i + 1) columns) (drop (i + 1) pattern) columns pattern
takes_more columns pattern i word taking c b in_columns in_pattern bits before = λ k h.
    let rest = takes (pattern_at (drop (i + 1) columns) k) (drop (i + 1) pattern) in
    let bit = takes_bit (column_bit (get_or columns i c) k) (get_or pattern i b) in
    ap (λ (t : Bool). t && rest) (and_bit word taking k ∙ ap (λ (t : Bool). has_bit word k && t) (bits k h))
    ∙ both_assoc (has_bit word k) bit rest
    ∙ ap (λ (cs : List Column). has_bit word k && takes (pattern_at cs k) (get_or pattern i b ∷ drop (i + 1) pattern)) (sym (drop_more columns i c in_columns))
    ∙ ap (λ (p : Pattern). has_bit word k && takes (pattern_at (drop i columns) k) p) (sym (drop_more pattern i b in_pattern))
    ∙ before k h

-- none is left that could take it
pub takes_no_more : (columns rest : List Column) (pattern bits : Pattern) (word : ℕ) → word ≡ 0 → Takes word rest bits columns pattern
    → (k : ℕ) → k < 64 → has_bit 0 k ≡ takes (pattern_at columns k) pattern
takes_no_more columns rest pattern bits word is before k h =
    no_bit k ∙ ap (λ (t : Bool). t && takes (pattern_at rest k) bits) (sym (ap (λ (w : ℕ). has_bit w k) is ∙ no_bit k)) ∙ before k h

apart : (p q : Pattern) → length p ≢ length q → takes p q ≡ false
apart [] [] h = absurd (h refl)
apart [] (b ∷ q) h = refl
apart (a ∷ p) [] h = refl
apart (a ∷ p) (b ∷ q) h = ap (λ (t : Bool). takes_bit a b && t) (apart p q (λ e. h (ap suc e))) ∙ both_false (takes_bit a b)
  where
    both_false : (a : Bool) → (a && false) ≡ false
    both_false true = refl
    both_false false = refl

pub takes_apart : (columns : List Column) (pattern : Pattern) (k : ℕ) → length columns ≢ length pattern → has_bit 0 k ≡ takes (pattern_at columns k) pattern
takes_apart columns pattern k h =
    no_bit k ∙ sym (apart (pattern_at columns k) pattern (λ e. h (sym (length-map columns (λ (c : Column). column_bit c k)) ∙ e)))

-- ---- the first that does

pub from_first : (x : ℕ × Pattern) (xs : List (ℕ × Pattern)) (p : Pattern) (b : Bool) → takes x.1 p ≡ b
    → x_taking (x ∷ xs) p ≡ (if b then Some x.0 else x_taking xs p)
from_first x xs p b e = ap (λ (t : Bool). option_map (λ (o : ℕ × Pattern). o.0) (cond t (Some x) (find (λ (o : ℕ × Pattern). takes o.1 p) xs))) e ∙ by b
  where
    by : (b : Bool) → option_map (λ (o : ℕ × Pattern). o.0) (cond b (Some x) (find (λ (o : ℕ × Pattern). takes o.1 p) xs)) ≡ (if b then Some x.0 else x_taking xs p)
    by true = refl
    by false = refl

module _ (columns : List Column) (p : Pattern) (word : ℕ) (each : (k : ℕ) → k < 64 → has_bit word k ≡ takes (pattern_at columns k) p) where
  first_none : (k : ℕ) (places : List ℕ) → k + length places ≤ 64 → ((i : ℕ) → i < 64 → has_bit word i ≡ false) → None ≡ x_taking (pairs_from k places columns) p
  first_none k [] fits none = refl
  first_none k (place ∷ places) fits none =
      first_none (suc k) places (omega (arith, fits)) none
      ∙ sym (from_first (place, pattern_at columns k) (pairs_from (suc k) places columns) p false (sym (each k (omega (arith, fits))) ∙ none k (omega (arith, fits))))

  first_some : (k : ℕ) (places : List ℕ) (m n : ℕ) → n ≡ k + m → k + length places ≤ 64 → has_bit word n ≡ true → ((i : ℕ) → i < n → has_bit word i ≡ false)
      → slice_get places m ≡ x_taking (pairs_from k places columns) p
  first_some k [] m n at fits here below = refl
  first_some k (place ∷ places) zero n at fits here below =
      let same : k ≡ n = omega (arith, at) in
      sym (from_first (place, pattern_at columns k) (pairs_from (suc k) places columns) p true (sym (each k (omega (arith, fits))) ∙ ap (has_bit word) same ∙ here))
  first_some k (place ∷ places) (suc m) n at fits here below =
      first_some (suc k) places m n (omega (arith, at)) (omega (arith, fits)) here below
      ∙ sym (from_first (place, pattern_at columns k) (pairs_from (suc k) places columns) p false (sym (each k (omega (arith, fits))) ∙ below k (omega (arith, at))))

  pub no_first : (places : List ℕ) → length places ≤ 64 → IsFirst (has_bit word) 64 None → None ≡ x_taking (pairs_from 0 places columns) p
  no_first places fits none = first_none 0 places (omega (arith, fits)) none

  pub the_first : (places : List ℕ) (n : ℕ) → length places ≤ 64 → IsFirst (has_bit word) 64 (Some n) → slice_get places n ≡ x_taking (pairs_from 0 places columns) p
  the_first places n fits found = first_some 0 places n n (omega arith) (omega (arith, fits)) found.1 found.2

-- the first of two places, where there is one in the first list
abbrev place_or : Option ℕ → Option ℕ → Option ℕ
place_or None later = later
place_or (Some place) later = Some place

taking_joined : (xs ys : List (ℕ × Pattern)) (p : Pattern) → x_taking (xs ++ ys) p ≡ place_or (x_taking xs p) (x_taking ys p)
taking_joined [] ys p = refl
taking_joined (x ∷ xs) ys p = by (takes x.1 p) refl (taking_joined xs ys p)
  where
    by : (b : Bool) → takes x.1 p ≡ b → x_taking (xs ++ ys) p ≡ place_or (x_taking xs p) (x_taking ys p)
        → x_taking (x ∷ (xs ++ ys)) p ≡ place_or (x_taking (x ∷ xs) p) (x_taking ys p)
    by true is later = from_first x (xs ++ ys) p true is ∙ ap (λ (o : Option ℕ). place_or o (x_taking ys p)) (sym (from_first x xs p true is))
    by false is later = from_first x (xs ++ ys) p false is ∙ later ∙ ap (λ (o : Option ℕ). place_or o (x_taking ys p)) (sym (from_first x xs p false is))

pub taken_here : (xs ys : List (ℕ × Pattern)) (p : Pattern) (place : ℕ) → Some place ≡ x_taking xs p → Some place ≡ x_taking (xs ++ ys) p
taken_here xs ys p place e = sym (taking_joined xs ys p ∙ ap (λ (o : Option ℕ). place_or o (x_taking ys p)) (sym e))

pub taken_later : (xs ys : List (ℕ × Pattern)) (p : Pattern) → None ≡ x_taking xs p → x_taking (xs ++ ys) p ≡ x_taking ys p
taken_later xs ys p e = taking_joined xs ys p ∙ ap (λ (o : Option ℕ). place_or o (x_taking ys p)) (sym e)

-- ---- an opcode more

pub pattern_set : (columns : List Column) (i j : ℕ) (c d : Column) → column_bit c j ≡ column_bit (get_or columns i d) j → pattern_at (set columns i c) j ≡ pattern_at columns j
pattern_set columns i j c d same = map-set_same (λ (c : Column). column_bit c j) columns i c d same

pub pattern_more : (columns : List Column) (pattern : Pattern) (i k : ℕ) (c : Column) (b : Option Bool) → i < length columns → i < length pattern
    → column_bit c k ≡ get_or pattern i b → pattern_at (take i columns) k ≡ take i pattern → pattern_at (take (i + 1) (set columns i c)) k ≡ take (i + 1) pattern
pattern_more columns pattern i k c b in_columns in_pattern is before =
    ap (λ (cs : List Column). pattern_at cs k) (take_more_set columns i c in_columns)
    ∙ map-append (λ (c : Column). column_bit c k) (take i columns) (c ∷ [])
    ∙ ap (λ (front : Pattern). front ++ column_bit c k ∷ []) before
    ∙ ap (λ (bit : Option Bool). take i pattern ++ bit ∷ []) is
    ∙ sym (take_more pattern i b in_pattern)

-- the places before are as they were, and the last is this one
pub pairs_more : (k : ℕ) (places : List ℕ) (old new : List Column) (place : ℕ) (p : Pattern)
    → ((j : ℕ) → k ≤ j → j < k + length places → pattern_at new j ≡ pattern_at old j) → pattern_at new (k + length places) ≡ p
    → pairs_from k (places ++ place ∷ []) new ≡ pairs_from k places old ++ (place, p) ∷ []
pairs_more k [] old new place p others here =
    let at : k ≡ k + 0 = omega arith in
    ap (λ (q : Pattern). (place, q) ∷ []) (ap (pattern_at new) at ∙ here)
pairs_more k (n ∷ places) old new place p others here =
    let at : suc k + length places ≡ k + suc (length places) = omega arith in
    ap (λ (q : Pattern). (n, q) ∷ pairs_from (suc k) (places ++ place ∷ []) new) (others k (omega arith) (omega arith))
    ∙ ap (λ (xs : List (ℕ × Pattern)). (n, pattern_at old k) ∷ xs)
    (pairs_more (suc k) places old new place p (λ j low high. others j (omega (arith, low)) (omega (arith, high))) (ap (pattern_at new) at ∙ here))

pub block_more : (places after : List ℕ) (old lent new columns : List Column) (place count : ℕ) (p : Pattern) (block : List (ℕ × Pattern))
    → after ≡ places ++ place ∷ [] → lent ≡ old → columns ≡ new → pairs_from 0 places old ≡ block → count ≡ length places → count < 64
    → pattern_at new count ≡ p → ((j : ℕ) → j < 64 → j ≢ count → pattern_at new j ≡ pattern_at lent j) → pairs_from 0 after columns ≡ block ++ (place, p) ∷ []
block_more places after old lent new columns place count p block after_is lends columns_are was at small here others =
    let end : 0 + length places ≡ count = omega (arith, at) in
    ap (λ (ns : List ℕ). pairs_from 0 ns columns) after_is
    ∙ ap (λ (cs : List Column). pairs_from 0 (places ++ place ∷ []) cs) columns_are
    ∙ pairs_more 0 places old new place p
    (λ j low high. others j (omega (arith, high, at, small)) (omega (arith, high, at)) ∙ ap (λ (cs : List Column). pattern_at cs j) lends)
    (ap (pattern_at new) end ∙ here)
    ∙ ap (λ (xs : List (ℕ × Pattern)). xs ++ (place, p) ∷ []) was

-- ---- blocks

last_more : (blocks : List (List (ℕ × Pattern))) (i : ℕ) (d more : List (ℕ × Pattern)) → i + 1 ≡ length blocks → joined (set blocks i (get_or blocks i d ++ more)) ≡ joined blocks ++ more
last_more [] i d more e = absurd (omega (arith, e))
last_more (b ∷ []) zero d more e = append-nil (b ++ more) ∙ ap (λ (l : List (ℕ × Pattern)). l ++ more) (sym (append-nil b))
last_more (b ∷ []) (suc i) d more e = absurd (omega (arith, e))
last_more (b ∷ c ∷ blocks) zero d more e = absurd (omega (arith, e))
last_more (b ∷ c ∷ blocks) (suc i) d more e =
    ap (λ (l : List (ℕ × Pattern)). b ++ l) (last_more (c ∷ blocks) i d more (omega (arith, e)))
    ∙ sym (append_assoc b (joined (c ∷ blocks)) more)

pub to_last : (E : Type 0) (blocks : List (List (ℕ × Pattern))) (i : ℕ) (d new : List (ℕ × Pattern)) (pair : ℕ × Pattern) (result : Result Bool E)
    → i + 1 ≡ length blocks → IfOk result (λ (b : Bool). new ≡ (if b then get_or blocks i d ++ pair ∷ [] else get_or blocks i d))
    → IfOk result (λ (b : Bool). joined (set blocks i new) ≡ (if b then joined blocks ++ pair ∷ [] else joined blocks))
to_last E blocks i d new pair (Ok true) at is = ap (λ (b : List (ℕ × Pattern)). joined (set blocks i b)) is ∙ last_more blocks i d (pair ∷ []) at
to_last E blocks i d new pair (Ok false) at is = ap (λ (b : List (ℕ × Pattern)). joined (set blocks i b)) is ∙ ap joined (set-get_or blocks i d)
to_last E blocks i d new pair (Err e) at is = tt

pub rest_of : (blocks : List (List (ℕ × Pattern))) (i : ℕ) (block : List (ℕ × Pattern)) (p : Pattern) → i < length blocks → block ≡ get_or blocks i block
    → x_taking (block ++ joined (drop (i + 1) blocks)) p ≡ x_taking (joined (drop i blocks)) p
rest_of blocks i block p h is =
    ap (λ (b : List (ℕ × Pattern)). x_taking (b ++ joined (drop (i + 1) blocks)) p) is
    ∙ ap (λ (bs : List (List (ℕ × Pattern))). x_taking (joined bs) p) (sym (drop_more blocks i block h))
