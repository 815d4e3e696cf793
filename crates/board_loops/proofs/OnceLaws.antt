-- A list in which the first numbers stand in another order has each of them at one place.
use Rattle.std.proofs.Common.{◌≡◌, ◌<◌, ◌≤◌, ◌+◌, ◌==◌, ℕ, zero, suc, Bool, cond, List, [], ◌∷◌, length, get_or, slice_get, Some, All, Contains, IsPermutation, count_by, refl, ap, subst, ◌∙◌, inl, inr, arith}
use Rattle.std.specs.List.{range_with_len}
use Rattle.std.proofs.lemmas.Bool.{cases_order, eq-eqb, ne_eqb}
use Rattle.std.proofs.lemmas.List.Elements.{Contains-get_or}
use Rattle.std.proofs.lemmas.List.FromFn.{get_or-range_with_len, length-range_with_len}
use Rattle.std.proofs.lemmas.List.Sorted.{All-permutation, Contains-permutation, sum_by-IsPermutation}
use Rattle.std.proofs.lemmas.List.Sums.{sum_by-cons}
use Rattle.std.proofs.lemmas.Option.{none-some, same_Some, slice_get-get_or}
use Rattle.board_loops.specs.Loops.{OrdersHaveEachOnce}
use Rattle.board_loops.proofs.LoopLaws.{all_at}

-- how often a number stands in a list
abbrev times : ℕ → List ℕ → ℕ
times p xs = count_by (λ x. x == p) xs

abbrev here : ℕ → ℕ → ℕ
here p x = cond (x == p) 1 0

times-cons : (p x : ℕ) (xs : List ℕ) → times p (x ∷ xs) ≡ here p x + times p xs
times-cons p x xs = sum_by-cons (here p) x xs

here_same : (p x : ℕ) → x ≡ p → here p x ≡ 1
here_same p x same = ap (λ (b : Bool). cond b 1 0) (eq-eqb x p same)

here_other : (p x : ℕ) → (x ≡ p → ⊥) → here p x ≡ 0
here_other p x other = ap (λ (b : Bool). cond b 1 0) (ne_eqb x p other)

-- ---- in a range no number stands twice

none_below : (p a n : ℕ) → p < a → times p (range_with_len a n) ≡ 0
none_below p a zero low = refl
none_below p a (suc n) low =
    omega (arith, times-cons p a (range_with_len (a + 1) n), here_other p a (λ same. omega (arith, low, same)), none_below p (a + 1) n (omega (arith, low)))

one_at_most : (p a n : ℕ) → times p (range_with_len a n) ≤ 1
one_at_most p a zero = omega arith
one_at_most p a (suc n) = elim (cases_order a p) [
  | inl same ↦ omega (arith, times-cons p a (range_with_len (a + 1) n), here_same p a same, none_below p (a + 1) n (omega (arith, same)))
  | inr other ↦
      omega (arith, times-cons p a (range_with_len (a + 1) n), here_other p a (λ same. elim other [ inl low ↦ omega (arith, low, same) | inr high ↦ omega (arith, high, same) ]), one_at_most p (a + 1) n)
]

-- ---- what stands at two places stands there twice

once_there : (p : ℕ) (xs : List ℕ) (i : ℕ) → slice_get xs i ≡ Some p → 1 ≤ times p xs
once_there p [] i stands = absurd (none-some p stands)
once_there p (x ∷ xs) zero stands = omega (arith, times-cons p x xs, here_same p x (same_Some x p stands))
once_there p (x ∷ xs) (suc i) stands = omega (arith, times-cons p x xs, once_there p xs i stands)

twice_there : (p : ℕ) (xs : List ℕ) (i j : ℕ) → i < j → slice_get xs i ≡ Some p → slice_get xs j ≡ Some p → 2 ≤ times p xs
twice_there p [] i j low first second = absurd (none-some p first)
twice_there p (x ∷ xs) i zero low first second = absurd (omega (arith, low))
twice_there p (x ∷ xs) zero (suc j) low first second =
    omega (arith, times-cons p x xs, here_same p x (same_Some x p first), once_there p xs j second)
twice_there p (x ∷ xs) (suc i) (suc j) low first second =
    omega (arith, times-cons p x xs, twice_there p xs i j (omega (arith, low)) first second)

one_place : (n : ℕ) (order : List ℕ) → IsPermutation (range_with_len 0 n) order → (i j p : ℕ) → slice_get order i ≡ Some p → slice_get order j ≡ Some p → i ≡ j
one_place n order moved i j p first second =
    let same : times p order ≡ times p (range_with_len 0 n) = sum_by-IsPermutation (here p) (range_with_len 0 n) order moved in
    let most : times p (range_with_len 0 n) ≤ 1 = one_at_most p 0 n in
    elim (cases_order i j) [
      | inl is ↦ is
      | inr other ↦ elim other [
        | inl low ↦ absurd (omega (arith, same, most, twice_there p order i j low first second))
        | inr high ↦ absurd (omega (arith, same, most, twice_there p order j i high second first))
      ]
    ]

below : (n : ℕ) → All (λ (k : ℕ). k < n) (range_with_len 0 n)
below n k d inside =
    let low : k < n = omega (arith, inside, length-range_with_len 0 n) in
    omega (arith, low, get_or-range_with_len 0 n k d low)

some_place : (n : ℕ) (order : List ℕ) → IsPermutation (range_with_len 0 n) order → (p : ℕ) → p < n → (i : ℕ) × (slice_get order i ≡ Some p)
some_place n order moved p low =
    let is : get_or (range_with_len 0 n) p 0 ≡ p = omega (arith, get_or-range_with_len 0 n p 0 low) in
    let inside : p < length (range_with_len 0 n) = omega (arith, low, length-range_with_len 0 n) in
    let there : Contains (range_with_len 0 n) p = subst (Contains (range_with_len 0 n)) is (Contains-get_or (range_with_len 0 n) p 0 inside) in
    let found : Contains order p = Contains-permutation (range_with_len 0 n) order p moved there in
    (found.0, slice_get-get_or order found.0 p found.1 ∙ ap (λ (k : ℕ). Some k) found.2)

pub each_once : OrdersHaveEachOnce
each_once strings order ordered =
    let n = length strings in
    record {
      each = some_place n order ordered.each_once;
      once = one_place n order ordered.each_once;
      strings_alone = all_at (λ (k : ℕ). k < n) order (All-permutation (λ (k : ℕ). k < n) (range_with_len 0 n) order ordered.each_once (below n));
    }
