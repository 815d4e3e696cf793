-- A bit of two lists in a row, and one that is turned there.
use Rattle.std.proofs.Common.{◌≡◌, ◌≢◌, Bool, not, ℕ, zero, suc, ◌+◌, ◌<◌, List, [], ◌∷◌, ◌++◌, length, take, refl, ap, arith, slice_get, Some}
use Rattle.board_reasons.specs.Turned.{turned}

pub get_front : (xs ys : List Bool) (k : ℕ) → k < length xs → slice_get (xs ++ ys) k ≡ slice_get xs k
get_front [] ys k inside = absurd (omega (arith, inside))
get_front (x ∷ xs) ys zero inside = refl
get_front (x ∷ xs) ys (suc k) inside = get_front xs ys k (omega (arith, inside))

pub get_behind : (xs ys : List Bool) (k j : ℕ) → k ≡ length xs + j → slice_get (xs ++ ys) k ≡ slice_get ys j
get_behind [] ys k j e = let same : k ≡ j = omega (arith, e) in ap (slice_get ys) same
get_behind (x ∷ xs) ys zero j e = absurd (omega (arith, e))
get_behind (x ∷ xs) ys (suc k) j e = get_behind xs ys k j (omega (arith, e))

pub turned_front : (xs ys : List Bool) (k : ℕ) → k < length xs → turned k xs ++ ys ≡ turned k (xs ++ ys)
turned_front [] ys k inside = absurd (omega (arith, inside))
turned_front (x ∷ xs) ys zero inside = refl
turned_front (x ∷ xs) ys (suc k) inside = ap (λ l. x ∷ l) (turned_front xs ys k (omega (arith, inside)))

pub turned_behind : (xs ys : List Bool) (k j : ℕ) → k ≡ length xs + j → xs ++ turned j ys ≡ turned k (xs ++ ys)
turned_behind [] ys k j e = let same : j ≡ k = omega (arith, e) in ap (λ i. turned i ys) same
turned_behind (x ∷ xs) ys zero j e = absurd (omega (arith, e))
turned_behind (x ∷ xs) ys (suc k) j e = ap (λ l. x ∷ l) (turned_behind xs ys k j (omega (arith, e)))

pub turned_long : (k : ℕ) (xs : List Bool) → length (turned k xs) ≡ length xs
turned_long k [] = refl
turned_long zero (x ∷ xs) = refl
turned_long (suc k) (x ∷ xs) = ap suc (turned_long k xs)

-- another bit stays
pub turned_other : (k j : ℕ) (xs : List Bool) → j ≢ k → slice_get (turned j xs) k ≡ slice_get xs k
turned_other k j [] other = refl
turned_other zero zero (x ∷ xs) other = absurd (other refl)
turned_other (suc k) zero (x ∷ xs) other = refl
turned_other zero (suc j) (x ∷ xs) other = refl
turned_other (suc k) (suc j) (x ∷ xs) other = turned_other k j xs (λ e. other (ap suc e))

-- the bit itself
pub turned_at : (k : ℕ) (xs : List Bool) (b : Bool) → slice_get xs k ≡ Some b → slice_get (turned k xs) k ≡ Some (not b)
turned_at k [] b e = absurd cc
turned_at zero (x ∷ xs) b e = let same : x ≡ b = cc in ap (λ y. Some (not y)) same
turned_at (suc k) (x ∷ xs) b e = turned_at k xs b e

pub get_taken : (n : ℕ) (xs : List Bool) (k : ℕ) → k < n → slice_get (take n xs) k ≡ slice_get xs k
get_taken zero xs k inside = absurd (omega (arith, inside))
get_taken (suc n) [] k inside = refl
get_taken (suc n) (x ∷ xs) zero inside = refl
get_taken (suc n) (x ∷ xs) (suc k) inside = get_taken n xs k (omega (arith, inside))

pub turned_taken : (n : ℕ) (xs : List Bool) (k : ℕ) → k < n → take n (turned k xs) ≡ turned k (take n xs)
turned_taken zero xs k inside = absurd (omega (arith, inside))
turned_taken (suc n) [] k inside = refl
turned_taken (suc n) (x ∷ xs) zero inside = refl
turned_taken (suc n) (x ∷ xs) (suc k) inside = ap (λ l. x ∷ l) (turned_taken n xs k (omega (arith, inside)))
