-- Two lists of bits with the same words are the same.
use Rattle.std.proofs.Common.{◌≡◌, ℕ, suc, ◌+◌, ◌-◌, ◌*◌, ◌<◌, ◌≤◌, Bool, false, List, [], ◌∷◌, length, get_or, refl, sym, ap, ◌∙◌, arith, ⊎_elim}
use Rattle.std.proofs.lemmas.Bool.{cases_lt}
use Rattle.jt_bits.specs.Packed.{has_bit}
use Rattle.jt_bits.specs.Words.{word_of}
use Rattle.jt_bits.proofs.Lists.{has_bit-word}

abbrev pub SameBelow : ℕ → (one other : List Bool) → Type 0
SameBelow n one other = (i : ℕ) → i < n → get_or one i false ≡ get_or other i false

pub same_more : (one other : List Bool) (k v w : ℕ) → v ≡ word_of one k → w ≡ word_of other k → v ≡ w
    → SameBelow (64 * k) one other → SameBelow (64 * (k + 1)) one other
same_more one other k v w v_is w_is same so_far i h = ⊎_elim
    (λ (before : i < 64 * k). so_far i before)
    (λ (more : 64 * k ≤ i).
    let j = i - 64 * k in
    let place : 64 * k + j ≡ i = omega (arith, more) in
    let low : j < 64 = omega (arith, more, h) in
    ap (λ (n : ℕ). get_or one n false) (sym place) ∙ sym (has_bit-word one k j low)
    ∙ ap (λ (n : ℕ). has_bit n j) (sym v_is ∙ same ∙ w_is)
    ∙ has_bit-word other k j low ∙ ap (λ (n : ℕ). get_or other n false) place)
    (cases_lt i (64 * k))

pub same_all : (one other : List Bool) → length one ≡ length other → SameBelow (length one) one other → one ≡ other
same_all [] [] long same = refl
same_all [] (y ∷ other) long same = absurd (omega (arith, long))
same_all (x ∷ one) [] long same = absurd (omega (arith, long))
same_all (x ∷ one) (y ∷ other) long same = λ i. same 0 (omega arith) i
    ∷ same_all one other (omega (arith, long)) (λ j h. same (suc j) (omega (arith, h))) i
