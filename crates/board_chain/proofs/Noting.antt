-- The bits of a vector that differ, noted by pieces of what comes out.
use Rattle.std.proofs.Common.{◌≡◌, ℕ, zero, suc, ◌+◌, ◌<◌, ◌≤◌, Bool, true, false, ◌&&◌, List, [], ◌∷◌, ◌++◌, length, take, drop, refl, sym, ap, ◌∙◌, arith, Option, Some, None}
use Rattle.std.specs.Prelude.{slice_get, option_map}
use Rattle.std.proofs.lemmas.List.{drop-drop}
use Rattle.std.proofs.lemmas.Option.{none-some}
use Rattle.jt_bits.specs.Packed.{has_bit}
use Rattle.jt_bits.specs.Words.{bit_of, differ, is_bad_bit}
use Rattle.scan_vectors.specs.declared.failures.Mismatch.{Mismatch}
use Rattle.scan_vectors.specs.declared.part.Part.{Part}
use Rattle.scan_vectors.specs.Failures.{Found, differing, with_found}
use Rattle.scan_vectors.specs.Held.{wanted_of}
use Rattle.scan_vectors.specs.Vector.{VectorBit, differs, tdis}
use Rattle.scan_vectors.proofs.Listing.{found-twice}
use Rattle.board_chain.specs.Pieces.{Begins}
use Rattle.board_chain.proofs.Differing.{NoneDiffers, differing-cut, listed, none-differ, one-differs}

-- ---- a place of a list further on

pub get-further : {A : Type 0} (xs : List A) (n i : ℕ) → slice_get (drop n xs) i ≡ slice_get xs (n + i)
get-further [] zero i = refl
get-further [] (suc n) i = refl
get-further (x ∷ xs) zero i = let e : 0 + i ≡ i = omega arith in rw e refl
get-further (x ∷ xs) (suc n) i = let e : suc n + i ≡ suc (n + i) = omega arith in rw e (get-further xs n i)

get-there : (bits : List Bool) (i : ℕ) → i < length bits → slice_get bits i ≡ Some (bit_of bits i)
get-there [] i h = absurd (omega arith)
get-there (b ∷ bits) zero h = refl
get-there (b ∷ bits) (suc i) h = get-there bits i (omega arith)

-- a word of a list from a place on, as far as the list goes
pub word_begins : (bits : List Bool) (i word n : ℕ) → n ≤ 64 → i + n ≤ length bits → ((j : ℕ) → j < 64 → has_bit word j ≡ bit_of bits (i + j)) → Begins word (drop i bits) n
word_begins bits i word n few in_ is j h =
    get-further bits i j ∙ get-there bits (i + j) (omega arith) ∙ ap Some (sym (is j (omega arith)))

pub tdi_begins : (vs : List VectorBit) (i word n m : ℕ) → n ≤ m → ((j : ℕ) → j < m → slice_get (tdis vs) (i + j) ≡ Some (has_bit word j)) → Begins word (drop i (tdis vs)) n
tdi_begins vs i word n m few is j h = get-further (tdis vs) i j ∙ is j (omega arith)

-- ---- the bits of one word

abbrev wanted_at : List VectorBit → ℕ → Option (Option Bool)
wanted_at vs i = option_map {U = Option Bool} (λ (b : VectorBit). b.wanted) (slice_get vs i)

differs_by : (care want got : Bool) → differs (wanted_of care want) got ≡ (care && differ got want)
differs_by true true true = refl
differs_by true true false = refl
differs_by true false true = refl
differs_by true false false = refl
differs_by false want got = refl

some_same : {A : Type 0} (x y : A) → Some x ≡ Some y → x ≡ y
some_same x y e = cc

-- what is wanted of the bit at a place
wanted_there : (vs : List VectorBit) (at j : ℕ) (v : VectorBit) (o : Option Bool) → wanted_at vs (at + j) ≡ Some o → slice_get (drop at vs) j ≡ Some v → v.wanted ≡ o
wanted_there vs at j v o w is =
    some_same v.wanted o (sym (ap (option_map {U = Option Bool} (λ (b : VectorBit). b.wanted)) (sym (get-further vs at j) ∙ is)) ∙ w)

-- where a bit stands
abbrev stands : VectorBit → Part × ℕ
stands v = (v.part, v.place)

bit_there : (o : Option VectorBit) (p : Part × ℕ) → option_map {U = Part × ℕ} stands o ≡ Some p → (v : VectorBit) × (o ≡ Some v) × (stands v ≡ p)
bit_there None p e = absurd (none-some p e)
bit_there (Some v) p e = (v, refl, some_same (stands v) p e)

-- bits of which none is wanted
pub free : (vs : List VectorBit) (out : List Bool) (at n : ℕ) → ((j : ℕ) → j < n → wanted_at vs (at + j) ≡ Some None) → NoneDiffers (drop at vs) out n
free vs out at n none j v b less is got = ap (λ (o : Option Bool). differs o b) (wanted_there vs at j v None (none j less) is)

module _ (vs : List VectorBit) (at care want word n len : ℕ) (w : (j : ℕ) → j < n → wanted_at vs (at + j) ≡ Some (wanted_of (has_bit care j) (has_bit want j)))
    (out : List Bool) (o : Begins word out len) where
  differs_there : (j : ℕ) (v : VectorBit) (b : Bool) → j < n → j < len → slice_get (drop at vs) j ≡ Some v → slice_get out j ≡ Some b
      → differs v.wanted b ≡ is_bad_bit word want care j
  differs_there j v b few less is got =
      (λ i. differs (wanted_there vs at j v (wanted_of (has_bit care j) (has_bit want j)) (w j few) is i) (some_same b (has_bit word j) (sym got ∙ o j less) i))
      ∙ differs_by (has_bit care j) (has_bit want j) (has_bit word j)

  pub good : (m : ℕ) → m ≤ n → m ≤ len → ((j : ℕ) → j < m → is_bad_bit word want care j ≡ false) → NoneDiffers (drop at vs) out m
  good m few less none j v b h is got = differs_there j v b (omega (arith, few, h)) (omega (arith, less, h)) is got ∙ none j h

  pub bad : (command k : ℕ) (p : Part × ℕ) → k < n → k < len → is_bad_bit word want care k ≡ true → ((j : ℕ) → j < k → is_bad_bit word want care j ≡ false)
      → option_map {U = Part × ℕ} stands (slice_get vs (at + k)) ≡ Some p → differing command (take (k + 1) (drop at vs)) out ≡ listed command p ∷ []
  bad command k p few less is_bad none is =
      let v = bit_there (slice_get vs (at + k)) p is in
      let there : slice_get (drop at vs) k ≡ Some v.0 = get-further vs at k ∙ v.1 in
      let next : k + 1 ≡ suc k = omega arith in
      ap (λ (n : ℕ). differing command (take n (drop at vs)) out) next
      ∙ one-differs command k (drop at vs) out v.0 (has_bit word k) (good k (omega (arith, few)) (omega (arith, less)) none) there (o k less)
      (differs_there k v.0 (has_bit word k) few less there (o k less) ∙ is_bad)
      ∙ ap (λ (q : Part × ℕ). listed command q ∷ []) v.2

-- ---- one piece after another

-- those of a piece, and then those that are left, are all
pub note_more : (command : ℕ) (vs : List VectorBit) (out : List Bool) (at done n : ℕ) (all had then_had : Found)
    → with_found (differing command (drop (at + done) vs) (drop done out)) had ≡ all
    → then_had ≡ with_found (differing command (take n (drop (at + done) vs)) (drop done out)) had
    → with_found (differing command (drop (at + (done + n)) vs) (drop (done + n) out)) then_had ≡ all
note_more command vs out at done n all had then_had so_far noted =
    let e : (at + done) + n ≡ at + (done + n) = omega arith in
    let piece = differing command (take n (drop (at + done) vs)) (drop done out) in
    let rest : differing command (drop n (drop (at + done) vs)) (drop n (drop done out)) ≡ differing command (drop (at + (done + n)) vs) (drop (done + n) out) =
    ap (λ (l : List VectorBit). differing command l (drop n (drop done out))) (drop-drop n (at + done) vs ∙ ap (λ (k : ℕ). drop k vs) e)
    ∙ ap (differing command (drop (at + (done + n)) vs)) (drop-drop n done out) in
    ap (with_found (differing command (drop (at + (done + n)) vs) (drop (done + n) out))) noted
    ∙ found-twice piece (differing command (drop (at + (done + n)) vs) (drop (done + n) out)) had
    ∙ ap (λ (l : List Mismatch). with_found (piece ++ l) had) (sym rest)
    ∙ ap (λ (l : List Mismatch). with_found l had) (sym (differing-cut command n (drop (at + done) vs) (drop done out))) ∙ so_far

-- where none is wanted there are none
pub note_free : (command : ℕ) (vs : List VectorBit) (out : List Bool) (at done n : ℕ) (all had : Found)
    → with_found (differing command (drop (at + done) vs) (drop done out)) had ≡ all
    → ((j : ℕ) → j < n → wanted_at vs ((at + done) + j) ≡ Some None)
    → with_found (differing command (drop (at + (done + n)) vs) (drop (done + n) out)) had ≡ all
note_free command vs out at done n all had so_far none =
    let e : (at + done) + n ≡ at + (done + n) = omega arith in
    let rest : differing command (drop n (drop (at + done) vs)) (drop n (drop done out)) ≡ differing command (drop (at + (done + n)) vs) (drop (done + n) out) =
    ap (λ (l : List VectorBit). differing command l (drop n (drop done out))) (drop-drop n (at + done) vs ∙ ap (λ (k : ℕ). drop k vs) e)
    ∙ ap (differing command (drop (at + (done + n)) vs)) (drop-drop n done out) in
    ap (λ (l : List Mismatch). with_found l had)
    (sym (differing-cut command n (drop (at + done) vs) (drop done out)
    ∙ ap (λ (l : List Mismatch). l ++ differing command (drop n (drop (at + done) vs)) (drop n (drop done out))) (none-differ command n (drop (at + done) vs) (drop done out) (free vs (drop done out) (at + done) n none))
    ∙ rest))
    ∙ so_far
