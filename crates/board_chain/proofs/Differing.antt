-- Every bit that differs, many bits at a time.
use Rattle.std.proofs.Common.{◌≡◌, ℕ, zero, suc, ◌<◌, ◌≤◌, Bool, true, false, List, [], ◌∷◌, ◌++◌, length, take, drop, refl, sym, ap, ◌∙◌, arith, if◌then◌else◌, Some}
use Rattle.std.proofs.lemmas.Option.{none-some}
use Rattle.std.specs.Prelude.{slice_get}
use Rattle.std.proofs.lemmas.List.{drop_all}
use Rattle.scan_vectors.specs.declared.failures.Mismatch.{Mismatch}
use Rattle.scan_vectors.specs.declared.part.Part.{Part}
use Rattle.scan_vectors.specs.Vector.{VectorBit, differs}
use Rattle.scan_vectors.specs.Failures.{differing}

some_same : {A : Type 0} (x y : A) → Some x ≡ Some y → x ≡ y
some_same x y e = cc

-- a bit that differs, as it is listed
abbrev pub listed : ℕ → Part × ℕ → Mismatch
listed command p = record { command = command; part = p.0; bit = p.1 }

abbrev pub mismatch : ℕ → VectorBit → Mismatch
mismatch command v = listed command (v.part, v.place)

-- one that differs is listed before the others
abbrev with_bit : Bool → Mismatch → List Mismatch → List Mismatch
with_bit d m rest = if d then m ∷ rest else rest

none-came : (command : ℕ) (vs : List VectorBit) → differing command vs [] ≡ []
none-came command [] = refl
none-came command (v ∷ vs) = refl

-- no bit of a vector, and nothing that came out
pub none-over : (command : ℕ) (vs : List VectorBit) (out : List Bool) (n : ℕ) → length vs ≤ n → differing command (drop n vs) out ≡ []
none-over command vs out n h = ap (λ (l : List VectorBit). differing command l out) (drop_all n vs h)

pub none-past : (command : ℕ) (vs : List VectorBit) (out : List Bool) (n : ℕ) → length out ≤ n → differing command vs (drop n out) ≡ []
none-past command vs out n h = ap (differing command vs) (drop_all n out h) ∙ none-came command vs

append-with : (d : Bool) (m : Mismatch) (a b : List Mismatch) → with_bit d m (a ++ b) ≡ with_bit d m a ++ b
append-with true m a b = refl
append-with false m a b = refl

-- those of the first bits, and those of the others
pub differing-cut : (command n : ℕ) (vs : List VectorBit) (out : List Bool)
    → differing command vs out ≡ differing command (take n vs) out ++ differing command (drop n vs) (drop n out)
differing-cut command zero vs out = refl
differing-cut command (suc n) [] out = refl
differing-cut command (suc n) (v ∷ vs) [] = sym (none-came command (drop n vs))
differing-cut command (suc n) (v ∷ vs) (b ∷ out) =
    ap (with_bit (differs v.wanted b) (mismatch command v)) (differing-cut command n vs out)
    ∙ append-with (differs v.wanted b) (mismatch command v) (differing command (take n vs) out) (differing command (drop n vs) (drop n out))

-- those of one register, and those of what comes out behind it
pub differing-append : (command : ℕ) (vs : List VectorBit) (xs ys : List Bool)
    → differing command vs (xs ++ ys) ≡ differing command vs xs ++ differing command (drop (length xs) vs) ys
differing-append command [] [] ys = refl
differing-append command [] (x ∷ xs) ys = refl
differing-append command (v ∷ vs) [] ys = refl
differing-append command (v ∷ vs) (x ∷ xs) ys =
    ap (with_bit (differs v.wanted x) (mismatch command v)) (differing-append command vs xs ys)
    ∙ append-with (differs v.wanted x) (mismatch command v) (differing command vs xs) (differing command (drop (length xs) vs) ys)

-- what comes out behind the vector's length does not count
pub differing-take : (command : ℕ) (vs : List VectorBit) (out : List Bool) → differing command vs (take (length vs) out) ≡ differing command vs out
differing-take command [] out = refl
differing-take command (v ∷ vs) [] = refl
differing-take command (v ∷ vs) (b ∷ out) = ap (with_bit (differs v.wanted b) (mismatch command v)) (differing-take command vs out)

one-more : (d : Bool) (m : Mismatch) (rest : List Mismatch) (n : ℕ) → length rest ≤ n → length (with_bit d m rest) ≤ suc n
one-more true m rest n h = omega (arith, h)
one-more false m rest n h = omega (arith, h)

-- they are at most the bits of the vector, and at most those that came out
pub few-wanted : (command : ℕ) (vs : List VectorBit) (out : List Bool) → length (differing command vs out) ≤ length vs
few-wanted command [] out = omega arith
few-wanted command (v ∷ vs) [] = omega arith
few-wanted command (v ∷ vs) (b ∷ out) = one-more (differs v.wanted b) (mismatch command v) (differing command vs out) (length vs) (few-wanted command vs out)

pub few-out : (command : ℕ) (vs : List VectorBit) (out : List Bool) → length (differing command vs out) ≤ length out
few-out command [] out = omega arith
few-out command (v ∷ vs) [] = omega arith
few-out command (v ∷ vs) (b ∷ out) = one-more (differs v.wanted b) (mismatch command v) (differing command vs out) (length out) (few-out command vs out)

-- no bit of the first ones differs
abbrev pub NoneDiffers : List VectorBit → List Bool → ℕ → Type 0
NoneDiffers vs out n = (j : ℕ) (v : VectorBit) (b : Bool) → j < n → slice_get vs j ≡ Some v → slice_get out j ≡ Some b → differs v.wanted b ≡ false

module _ (command : ℕ) where
  pub none-differ : (n : ℕ) (vs : List VectorBit) (out : List Bool) → NoneDiffers vs out n → differing command (take n vs) out ≡ []
  none-differ zero vs out same = refl
  none-differ (suc n) [] out same = refl
  none-differ (suc n) (v ∷ vs) [] same = refl
  none-differ (suc n) (v ∷ vs) (b ∷ out) same =
      let here : differs v.wanted b ≡ false = same 0 v b (omega arith) refl refl in
      ap (λ (d : Bool). with_bit d (mismatch command v) (differing command (take n vs) out)) here
      ∙ none-differ n vs out (λ j w x less is got. same (suc j) w x (omega (arith, less)) is got)

  pub one-differs : (n : ℕ) (vs : List VectorBit) (out : List Bool) (v : VectorBit) (b : Bool) → NoneDiffers vs out n
      → slice_get vs n ≡ Some v → slice_get out n ≡ Some b → differs v.wanted b ≡ true → differing command (take (suc n) vs) out ≡ mismatch command v ∷ []
  one-differs zero [] out v b same is got bad = absurd (none-some v is)
  one-differs zero (w ∷ vs) [] v b same is got bad = absurd (none-some b got)
  one-differs zero (w ∷ vs) (x ∷ out) v b same is got bad =
      let here : differs w.wanted x ≡ true = (λ i. differs (some_same w v is i).wanted (some_same x b got i)) ∙ bad in
      ap (λ (d : Bool). with_bit d (mismatch command w) []) here ∙ ap (λ (u : VectorBit). mismatch command u ∷ []) (some_same w v is)
  one-differs (suc n) [] out v b same is got bad = absurd (none-some v is)
  one-differs (suc n) (w ∷ vs) [] v b same is got bad = absurd (none-some b got)
  one-differs (suc n) (w ∷ vs) (x ∷ out) v b same is got bad =
      let here : differs w.wanted x ≡ false = same 0 w x (omega arith) refl refl in
      ap (λ (d : Bool). with_bit d (mismatch command w) (differing command (take (suc n) vs) out)) here
      ∙ one-differs n vs out v b (λ j u y less is got. same (suc j) u y (omega (arith, less)) is got) is got bad
