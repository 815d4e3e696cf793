-- A run is passed sixteen bytes at a time.
use Rattle.std.proofs.Common.{◌≡◌, ℕ, ◌+◌, ◌<◌, ◌≤◌, ◌%◌, ◌^◌, eqb, Bool, true, not, List, [], ◌∷◌, length, take, drop, map, cond, refl, ap, ap₂, ◌∙◌, sym, arith, Fits, w8}
use Rattle.std.specs.List.{prefix_len}
use Rattle.std.proofs.lemmas.Bool.{agree_below, agree_below_at, cond-true, cond-false, eq-eqb, ne_eqb}
use Rattle.std.proofs.lemmas.List.{length-map, length-take-le, take-append-drop}
use Rattle.std.proofs.lemmas.List.Folds.{prefix_len-append}
use Rattle.std.proofs.lemmas.Simd.{Each1-weaker, first_set_mask_l, map-map, mask_l-mod}
use lib.Count.{count_trailing_zeros}
use lib.Lanes.{Each1, mask_l, top}

-- tests that agree on each element have the same front
prefix_len_same : (p q : ℕ → Bool) (xs : List ℕ) → Each1 (λ x. p x ≡ q x) xs → prefix_len p xs ≡ prefix_len q xs
prefix_len_same p q [] same = refl
prefix_len_same p q (x ∷ xs) same = ap₂ (λ (b : Bool) (n : ℕ). cond b (1 + n) 0) same.0 (prefix_len_same p q xs same.1)

-- the lowest lane that stops is the first byte that fails the test
pub front_by_mask : (q : ℕ → Bool) (f : ℕ → ℕ) (v z : List ℕ) → z ≡ map f v → length v ≡ 16 → Each1 (Fits w8) v
    → agree_below (λ x. not (top 7 (f x))) q 256 ≡ true
    → cond (eqb (mask_l (map (top 7) z) % 2 ^ 64) 0) 16 (count_trailing_zeros 64 (mask_l (map (top 7) z) % 2 ^ 64)) ≡ prefix_len q v
front_by_mask q f v z lanes long fits all =
    let stops : ℕ → Bool = λ x. top 7 (f x) in
    let mask : mask_l (map (top 7) z) % 2 ^ 64 ≡ mask_l (map stops v) =
    ap (λ (l : List ℕ). mask_l (map (top 7) l) % 2 ^ 64) lanes ∙ ap (λ (l : List Bool). mask_l l % 2 ^ 64) (map-map (top 7) f v)
    ∙ mask_l-mod (map stops v) 64 (omega (arith, length-map v stops, long)) in
    ap (λ (m : ℕ). cond (eqb m 0) 16 (count_trailing_zeros 64 m)) mask
    ∙ first_set_mask_l stops v 16 long (omega arith)
    ∙ prefix_len_same (λ x. not (stops x)) q v (Each1-weaker (Fits w8) (λ x. not (stops x) ≡ q x)
    (λ x small. agree_below_at (λ x. not (stops x)) q 256 x all small.fits) v fits)

module _ (p : ℕ → Bool) (n : ℕ) (xs : List ℕ) (within : n ≤ length xs) where
  cut_in_two : prefix_len p xs ≡ cond (eqb (prefix_len p (take n xs)) (length (take n xs))) (length (take n xs) + prefix_len p (drop n xs)) (prefix_len p (take n xs))
  cut_in_two = ap (prefix_len p) (sym (take-append-drop n xs)) ∙ prefix_len-append p (take n xs) (drop n xs)

  long : length (take n xs) ≡ n
  long = length-take-le n xs within

  -- a run that ends in the first bytes
  pub ends_here : prefix_len p (take n xs) < n → prefix_len p xs ≡ prefix_len p (take n xs)
  ends_here short = cut_in_two ∙ cond-false _ _ _ (ne_eqb (prefix_len p (take n xs)) (length (take n xs)) (λ e. absurd (omega (arith, e, long, short))))

  -- and one that does not
  pub goes_on : prefix_len p (take n xs) ≡ n → prefix_len p xs ≡ n + prefix_len p (drop n xs)
  goes_on whole = cut_in_two ∙ cond-true _ _ _ (eq-eqb (prefix_len p (take n xs)) (length (take n xs)) (whole ∙ sym long)) ∙ ap (λ (k : ℕ). k + prefix_len p (drop n xs)) long
