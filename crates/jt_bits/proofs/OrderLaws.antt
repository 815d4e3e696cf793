-- Lists of bits compared word by word.
use Rattle.std.proofs.Common.{◌≡◌, ◌≢◌, ℕ, zero, suc, ◌+◌, ◌-◌, ◌*◌, ◌^◌, ◌<◌, ◌≤◌, ◌==◌, ◌&&◌, Bool, true, false, List, [], ◌∷◌, length, get_or, refl, sym, ap, ◌∙◌, arith, ⊎_elim}
use Rattle.std.specs.Cmp.Lexicographic.{slice_cmp}
use Rattle.std.specs.Ordering.{bool_cmp, ordering_then}
use Rattle.std.specs.declared.cmp.Ordering.{Ordering}
use Rattle.std.specs.declared.cmp.Ordering.TheVariants.{Equal}
use Rattle.std.proofs.lemmas.Bool.{cases_lt}
use Rattle.std.proofs.lemmas.List.{get_or_past}
use Rattle.std.proofs.lemmas.Nat.Bits.{bit_at_ones}
use Rattle.jt_bits.specs.Packed.{has_bit}
use Rattle.jt_bits.specs.Words.{differ, word_of}
use Rattle.jt_bits.proofs.Lists.{has_bit-word}

abbrev pub SameBelow : ℕ → (one other : List Bool) → Type 0
SameBelow n one other = (i : ℕ) → i < n → get_or one i false ≡ get_or other i false

differ_not : (a b : Bool) → differ a b ≡ false → a ≡ b
differ_not true true h = refl
differ_not true false h = cc
differ_not false true h = cc
differ_not false false h = refl

differ_is : (a b : Bool) → differ a b ≡ true → a ≢ b
differ_is true true h = absurd cc
differ_is true false h = λ e. cc
differ_is false true h = λ e. cc
differ_is false false h = absurd cc

ones_bit : (j : ℕ) → j < 64 → has_bit (2 ^ 64 - 1) j ≡ true
unfolding has_bit
ones_bit j h = ap (λ (n : ℕ). n == 1) (bit_at_ones 64 j h)

-- a word more that is the same in both
pub same_more : (one other : List Bool) (k v w : ℕ) → v ≡ word_of one k → w ≡ word_of other k
    → ((j : ℕ) → j < 64 → (has_bit (2 ^ 64 - 1) j && differ (has_bit v j) (has_bit w j)) ≡ false)
    → SameBelow (64 * k) one other → SameBelow (64 * (k + 1)) one other
same_more one other k v w v_is w_is same so_far i h = ⊎_elim
    (λ (before : i < 64 * k). so_far i before)
    (λ (more : 64 * k ≤ i).
    let j = i - 64 * k in
    let place : 64 * k + j ≡ i = omega (arith, more) in
    let low : j < 64 = omega (arith, more, h) in
    let bits : has_bit v j ≡ has_bit w j = differ_not _ _ (ap (λ (b : Bool). b && differ (has_bit v j) (has_bit w j)) (sym (ones_bit j low)) ∙ same j low) in
    ap (λ (n : ℕ). get_or one n false) (sym place) ∙ sym (has_bit-word one k j low)
    ∙ ap (λ (n : ℕ). has_bit n j) (sym v_is) ∙ bits ∙ ap (λ (n : ℕ). has_bit n j) w_is
    ∙ has_bit-word other k j low ∙ ap (λ (n : ℕ). get_or other n false) place)
    (cases_lt i (64 * k))

-- the bits of two words that differ there
at_bit : (bits : List Bool) (k v j : ℕ) → v ≡ word_of bits k → j < 64 → has_bit v j ≡ get_or bits (64 * k + j) false
at_bit bits k v j is low = ap (λ (n : ℕ). has_bit n j) is ∙ has_bit-word bits k j low

pub differ_there : (one other : List Bool) (k v w j : ℕ) → v ≡ word_of one k → w ≡ word_of other k → j < 64
    → (has_bit (2 ^ 64 - 1) j && differ (has_bit v j) (has_bit w j)) ≡ true → get_or one (64 * k + j) false ≢ get_or other (64 * k + j) false
differ_there one other k v w j v_is w_is low apart same =
    differ_is _ _ (ap (λ (b : Bool). b && differ (has_bit v j) (has_bit w j)) (sym (ones_bit j low)) ∙ apart)
    (at_bit one k v j v_is low ∙ same ∙ sym (at_bit other k w j w_is low))

-- only a place of the lists can differ
pub within : (one other : List Bool) (i : ℕ) → length one ≡ length other → get_or one i false ≢ get_or other i false → i < length one
within one other i long apart = ⊎_elim (λ (h : i < length one). h)
    (λ (past : length one ≤ i). absurd (apart (get_or_past one i false past ∙ sym (get_or_past other i false (omega (arith, past, long))))))
    (cases_lt i (length one))

-- the bits below the first word that differs
pub same_to : (one other : List Bool) (k v w j : ℕ) → v ≡ word_of one k → w ≡ word_of other k → j < 64
    → ((l : ℕ) → l < j → (has_bit (2 ^ 64 - 1) l && differ (has_bit v l) (has_bit w l)) ≡ false)
    → SameBelow (64 * k) one other → SameBelow (64 * k + j) one other
same_to one other k v w j v_is w_is low same so_far i h = ⊎_elim
    (λ (before : i < 64 * k). so_far i before)
    (λ (more : 64 * k ≤ i).
    let l = i - 64 * k in
    let place : 64 * k + l ≡ i = omega (arith, more) in
    let small : l < 64 = omega (arith, more, h, low) in
    let bits : has_bit v l ≡ has_bit w l = differ_not _ _ (ap (λ (b : Bool). b && differ (has_bit v l) (has_bit w l)) (sym (ones_bit l small)) ∙ same l (omega (arith, more, h))) in
    ap (λ (n : ℕ). get_or one n false) (sym place) ∙ sym (at_bit one k v l v_is small) ∙ bits
    ∙ at_bit other k w l w_is small ∙ ap (λ (n : ℕ). get_or other n false) place)
    (cases_lt i (64 * k))

then_first : (b c : Bool) (o : Ordering) → b ≢ c → bool_cmp b c ≡ ordering_then (bool_cmp b c) o
then_first true true o h = absurd (h refl)
then_first true false o h = refl
then_first false true o h = refl
then_first false false o h = absurd (h refl)

same_first : (b c : Bool) (o : Ordering) → b ≡ c → o ≡ ordering_then (bool_cmp b c) o
same_first true true o h = refl
same_first true false o h = absurd cc
same_first false true o h = absurd cc
same_first false false o h = refl

-- the first bits that differ decide
pub order_at : (one other : List Bool) (i : ℕ) → length one ≡ length other → i < length one → SameBelow i one other → get_or one i false ≢ get_or other i false
    → bool_cmp (get_or one i false) (get_or other i false) ≡ slice_cmp bool_cmp one other
order_at [] other i long inside same apart = absurd (omega (arith, inside))
order_at (x ∷ one) [] i long inside same apart = absurd (omega (arith, long))
order_at (x ∷ one) (y ∷ other) zero long inside same apart = then_first x y (slice_cmp bool_cmp one other) apart
order_at (x ∷ one) (y ∷ other) (suc i) long inside same apart =
    order_at one other i (omega (arith, long)) (omega (arith, inside)) (λ j h. same (suc j) (omega (arith, h))) apart
    ∙ same_first x y (slice_cmp bool_cmp one other) (same 0 (omega arith))

pub order_of_same : (one other : List Bool) → length one ≡ length other → SameBelow (length one) one other → Equal ≡ slice_cmp bool_cmp one other
order_of_same [] [] long same = refl
order_of_same [] (y ∷ other) long same = absurd (omega (arith, long))
order_of_same (x ∷ one) [] long same = absurd (omega (arith, long))
order_of_same (x ∷ one) (y ∷ other) long same =
    order_of_same one other (omega (arith, long)) (λ j h. same (suc j) (omega (arith, h)))
    ∙ same_first x y (slice_cmp bool_cmp one other) (same 0 (omega arith))
