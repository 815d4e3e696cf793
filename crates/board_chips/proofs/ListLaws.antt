-- Lists by their places.
use Rattle.std.proofs.Common.{◌≡◌, ◌≢◌, ◌<◌, ℕ, zero, suc, List, [], ◌∷◌, ◌++◌, length, set, slice_get, slice_index, Some, refl, sym, ap, arith, ◌⊎◌, inl, inr}
use Rattle.std.proofs.lemmas.Option.{none-some, same_Some}

pub set_here : {A : Type 0} (l : List A) (i : ℕ) (y : A) → i < length l → slice_get (set l i y) i ≡ Some y
set_here [] i y h = absurd (omega arith)
set_here (x ∷ l) zero y h = refl
set_here (x ∷ l) (suc i) y h = set_here l i y (omega arith)

pub set_there : {A : Type 0} (l : List A) (i j : ℕ) (y : A) → j ≢ i → slice_get (set l i y) j ≡ slice_get l j
set_there [] i j y apart = refl
set_there (x ∷ l) zero zero y apart = absurd (apart refl)
set_there (x ∷ l) zero (suc j) y apart = refl
set_there (x ∷ l) (suc i) zero y apart = refl
set_there (x ∷ l) (suc i) (suc j) y apart = set_there l i j y (λ e. apart (ap suc e))

-- two lists that have the same at each place
pub same_places : {A : Type 0} (xs ys : List A) → ((k : ℕ) → slice_get xs k ≡ slice_get ys k) → xs ≡ ys
same_places [] [] each = refl
same_places [] (y ∷ ys) each = absurd (none-some y (each 0))
same_places (x ∷ xs) [] each = absurd (none-some x (sym (each 0)))
same_places (x ∷ xs) (y ∷ ys) each =
    let here : x ≡ y = same_Some x y (each 0) in
    let rest : xs ≡ ys = same_places xs ys (λ k. each (suc k)) in
    λ i. here i ∷ rest i

pub before_append : {A : Type 0} (xs ys : List A) (i : ℕ) (x : A) → slice_get xs i ≡ Some x → slice_get (xs ++ ys) i ≡ Some x
before_append [] ys i x at = absurd (none-some x at)
before_append (z ∷ xs) ys zero x at = at
before_append (z ∷ xs) ys (suc i) x at = before_append xs ys i x at

pub pushed_last : {A : Type 0} (xs : List A) (y : A) → slice_get (xs ++ y ∷ []) (length xs) ≡ Some y
pushed_last [] y = refl
pushed_last (x ∷ xs) y = pushed_last xs y

pub pushed_cases : {A : Type 0} (xs : List A) (y : A) (i : ℕ) (z : A) → slice_get (xs ++ y ∷ []) i ≡ Some z → (slice_get xs i ≡ Some z) ⊎ (y ≡ z)
pushed_cases [] y zero z at = inr (same_Some y z at)
pushed_cases [] y (suc i) z at = absurd (none-some z at)
pushed_cases (x ∷ xs) y zero z at = inl at
pushed_cases (x ∷ xs) y (suc i) z at = pushed_cases xs y i z at

pub index_before : (xs ys : List ℕ) (k : ℕ) → k < length xs → slice_index (xs ++ ys) k ≡ slice_index xs k
index_before [] ys k h = absurd (omega arith)
index_before (x ∷ xs) ys zero h = refl
index_before (x ∷ xs) ys (suc k) h = index_before xs ys k (omega arith)
