-- What stands at a place of lists that are joined.
use Rattle.std.proofs.Common.{◌≡◌, ◌<◌, ◌≤◌, ℕ, zero, suc, ◌+◌, List, [], ◌∷◌, ◌++◌, length, map, slice_get, Some, None, option_map, get_or, refl, sym, ap, ◌∙◌, arith}
use Rattle.std.specs.List.{range_with_len, remove}
use Rattle.std.proofs.lemmas.List.FromFn.{get_or-range_with_len, length-range_with_len}
use Rattle.std.proofs.lemmas.List.{get_or-map}
use Rattle.std.proofs.lemmas.Option.{slice_get-get_or, slice_get-map, slice_get_past}

pub range_at : (a n k : ℕ) → k < n → slice_get (range_with_len a n) k ≡ Some (a + k)
range_at a n k h = slice_get-get_or (range_with_len a n) k 0 (omega (arith, h, length-range_with_len a n)) ∙ ap Some (get_or-range_with_len a n k 0 h)

pub mapped_at : {X : Type 0} (f : ℕ → X) (a n k j : ℕ) → k < n → a + k ≡ j → slice_get (map f (range_with_len a n)) k ≡ Some (f j)
mapped_at f a n k j h is = slice_get-map f (range_with_len a n) k ∙ ap (option_map f) (range_at a n k h) ∙ ap (λ (i : ℕ). Some (f i)) is

pub mapped_past : {X : Type 0} (f : ℕ → X) (a n k : ℕ) → n ≤ k → slice_get (map f (range_with_len a n)) k ≡ None
mapped_past f a n k h = slice_get-map f (range_with_len a n) k ∙ ap (option_map f) (slice_get_past (range_with_len a n) k (omega (arith, h, length-range_with_len a n)))

pub at_left : {X : Type 0} (xs ys : List X) (i : ℕ) → i < length xs → slice_get (xs ++ ys) i ≡ slice_get xs i
at_left [] ys i h = absurd (omega arith)
at_left (x ∷ xs) ys zero h = refl
at_left (x ∷ xs) ys (suc i) h = at_left xs ys i (omega (arith, h))

pub at_right : {X : Type 0} (xs ys : List X) (i j : ℕ) → i ≡ length xs + j → slice_get (xs ++ ys) i ≡ slice_get ys j
at_right [] ys i j is = let same : i ≡ j = omega (arith, is) in ap (slice_get ys) same
at_right (x ∷ xs) ys zero j is = absurd (omega (arith, is))
at_right (x ∷ xs) ys (suc i) j is = at_right xs ys i j (omega (arith, is))

-- what is read of a list that another stands for
pub at_map : {X Y : Type 0} (f : X → Y) (xs : List X) (k : ℕ) (x : X) (d : Y) → k < length xs → x ≡ get_or xs k x → get_or (map f xs) k d ≡ f x
at_map f xs k x d h is = get_or-map f xs k x d h ∙ ap f (sym is)

pub map-remove : {X Y : Type 0} (f : X → Y) (xs : List X) (k : ℕ) → map f (remove xs k) ≡ remove (map f xs) k
map-remove f [] zero = refl
map-remove f [] (suc k) = refl
map-remove f (x ∷ xs) zero = refl
map-remove f (x ∷ xs) (suc k) = ap (λ (l : List _). f x ∷ l) (map-remove f xs k)
