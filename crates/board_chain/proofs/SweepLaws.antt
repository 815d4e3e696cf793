-- Loops over the devices of a chain, one device after another.
use Rattle.std.proofs.Common.{◌≡◌, ◌≢◌, ◌<◌, ◌≤◌, ℕ, zero, suc, ◌+◌, List, [], ◌∷◌, length, map, drop, set, slice_get, Some, refl, sym, ap, subst, ◌∙◌, arith, ◌⊎◌, inl, inr, ⊎_elim}
use Rattle.std.proofs.lemmas.List.{length-set}
use Rattle.std.proofs.lemmas.Option.{same_Some, slice_get_within}
use Rattle.board_chips.specs.WiredChips.{WiredChipValue}
use Rattle.board_chain.specs.Sweeping.{EachFrom}

-- the first i of them are done, the others as they were
pub record Swept (R : ℕ → WiredChipValue → WiredChipValue → Type 0) (i : ℕ) (old now : List WiredChipValue) : Type 0 where
  pub long : length now ≡ length old
  pub done : (j : ℕ) (s t : WiredChipValue) → j < i → slice_get old j ≡ Some s → slice_get now j ≡ Some t → R j s t
  pub rest : (j : ℕ) → i ≤ j → slice_get now j ≡ slice_get old j

set-here : (l : List WiredChipValue) (i : ℕ) (y : WiredChipValue) → i < length l → slice_get (set l i y) i ≡ Some y
set-here [] i y h = absurd (omega arith)
set-here (x ∷ l) zero y h = refl
set-here (x ∷ l) (suc i) y h = set-here l i y (omega arith)

set-there : (l : List WiredChipValue) (i j : ℕ) (y : WiredChipValue) → j ≢ i → slice_get (set l i y) j ≡ slice_get l j
set-there [] i j y apart = refl
set-there (x ∷ l) zero zero y apart = absurd (apart refl)
set-there (x ∷ l) zero (suc j) y apart = refl
set-there (x ∷ l) (suc i) zero y apart = refl
set-there (x ∷ l) (suc i) (suc j) y apart = set-there l i j y (λ e. apart (ap suc e))

pub swept_more : (R : ℕ → WiredChipValue → WiredChipValue → Type 0) (i : ℕ) (old now : List WiredChipValue) (s y : WiredChipValue)
    → Swept R i old now → slice_get now i ≡ Some s → R i s y → Swept R (i + 1) old (set now i y)
swept_more R i old now s y w here one = record {
  long = length-set now i y ∙ w.long;
  done = λ j a b below at was. by j a b below at was (nat_split j i);
  rest = λ j h. let apart : j ≢ i = λ e. absurd (omega (arith, h, e)) in set-there now i j y apart ∙ w.rest j (omega (arith, h));
}
  where
    within : i < length now
    within = slice_get_within now i s here

    nat_split : (j i : ℕ) → (j ≡ i) ⊎ (j ≢ i)
    nat_split zero zero = inl refl
    nat_split zero (suc i) = inr (λ e. absurd (omega (arith, e)))
    nat_split (suc j) zero = inr (λ e. absurd (omega (arith, e)))
    nat_split (suc j) (suc i) = ⊎_elim (λ e. inl (ap suc e)) (λ n. inr (λ e. n (omega (arith, e)))) (nat_split j i)

    by : (j : ℕ) (a b : WiredChipValue) → j < i + 1 → slice_get old j ≡ Some a → slice_get (set now i y) j ≡ Some b → (j ≡ i) ⊎ (j ≢ i) → R j a b
    by j a b below at was split = ⊎_elim
        (λ e.
        let old-is : s ≡ a = same_Some _ _ (sym here ∙ w.rest i (omega arith) ∙ sym (ap (slice_get old) e) ∙ at) in
        let new-is : y ≡ b = same_Some _ _ (sym (set-here now i y within) ∙ sym (ap (slice_get (set now i y)) e) ∙ was) in
        subst (λ (k : ℕ). R k a b) (sym e) (subst (λ (x : WiredChipValue). R i a x) new-is (subst (λ (x : WiredChipValue). R i x y) old-is one)))
        (λ n. w.done j a b (omega (arith, below, n)) at (sym (set-there now i j y n) ∙ was))
        split

each-get : (R : ℕ → WiredChipValue → WiredChipValue → Type 0) (k : ℕ) (old now : List WiredChipValue) → length now ≡ length old
    → ((j : ℕ) (s t : WiredChipValue) → slice_get old j ≡ Some s → slice_get now j ≡ Some t → R (k + j) s t) → EachFrom R k old now
each-get R k [] [] long each = tt
each-get R k [] (t ∷ now) long each = absurd (omega (arith, long))
each-get R k (s ∷ old) [] long each = absurd (omega (arith, long))
each-get R k (s ∷ old) (t ∷ now) long each =
    let same : k + 0 ≡ k = omega arith in (
      subst (λ (i : ℕ). R i s t) same (each 0 s t refl refl),
      each-get R (suc k) old now (omega (arith, long)) (λ j a b at was.
          let next : k + suc j ≡ suc k + j = omega arith in subst (λ (i : ℕ). R i a b) next (each (suc j) a b at was)),
    )

pub swept_all : (R : ℕ → WiredChipValue → WiredChipValue → Type 0) (i : ℕ) (old now : List WiredChipValue) → Swept R i old now → length old ≤ i → EachFrom R 0 old now
swept_all R i old now w h =
    each-get R 0 old now w.long (λ j s t at was.
    let same : j ≡ 0 + j = omega arith in
    subst (λ (k : ℕ). R k s t) same (w.done j s t (omega (arith, h, slice_get_within old j s at)) at was))

-- two lists that are alike from a place on
pub drop_alike : (i : ℕ) (old now : List WiredChipValue) → length now ≡ length old → ((j : ℕ) → i ≤ j → slice_get now j ≡ slice_get old j) → drop i now ≡ drop i old
drop_alike zero [] [] long same = refl
drop_alike zero [] (t ∷ now) long same = absurd (omega (arith, long))
drop_alike zero (s ∷ old) [] long same = absurd (omega (arith, long))
drop_alike zero (s ∷ old) (t ∷ now) long same =
    let here : t ≡ s = same_Some _ _ (same 0 (omega arith)) in
    λ i. here i ∷ drop_alike zero old now (omega (arith, long)) (λ j h. same (suc j) (omega (arith, h))) i
drop_alike (suc i) [] [] long same = refl
drop_alike (suc i) [] (t ∷ now) long same = absurd (omega (arith, long))
drop_alike (suc i) (s ∷ old) [] long same = absurd (omega (arith, long))
drop_alike (suc i) (s ∷ old) (t ∷ now) long same = drop_alike i old now (omega (arith, long)) (λ j h. same (suc j) (omega (arith, h)))

pub map_drop : {A B : Type 0} (f : A → B) (i : ℕ) (l : List A) → drop i (map f l) ≡ map f (drop i l)
map_drop f zero l = refl
map_drop f (suc i) [] = refl
map_drop f (suc i) (x ∷ l) = map_drop f i l

pub each_long : (R : ℕ → WiredChipValue → WiredChipValue → Type 0) (k : ℕ) (old now : List WiredChipValue) → EachFrom R k old now → length now ≡ length old
each_long R k [] [] e = refl
each_long R k [] (t ∷ now) e = absurd e
each_long R k (s ∷ old) [] e = absurd e
each_long R k (s ∷ old) (t ∷ now) e = let rest = each_long R (suc k) old now e.1 in omega (arith, rest)
