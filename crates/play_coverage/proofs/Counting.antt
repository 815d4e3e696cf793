-- Counts and lists with one more.
use Rattle.std.proofs.Common.{◌≡◌, ◌<◌, ◌≤◌, ◌+◌, ℕ, suc, Bool, true, false, List, [], ◌∷◌, ◌++◌, length, take, refl, sym, ap, ◌∙◌, arith, length-take, append_assoc}
use Rattle.std.specs.Prelude.{flat_map, nat_lt, ◌&&◌, if◌then◌else◌, cond}
use Rattle.std.specs.List.{count_by, filter, list_any, sum_by}
use Rattle.std.proofs.lemmas.Bool.Decides.{nat_tests}
use Rattle.std.proofs.lemmas.List.{append-nil, length-append, take_all, take-append-le}
use Rattle.std.proofs.lemmas.List.Sums.{sum_by-append}
use Rattle.std.proofs.lemmas.List.Elements.{filter-append}
use Rattle.std.proofs.lemmas.Grind.{flat_map-append}
use Rattle.play_coverage.specs.Tallies.{one_if}

-- ---- counts

pub count_more : {X : Type 0} (p : X → Bool) (xs : List X) (x : X) → count_by p (xs ++ x ∷ []) ≡ count_by p xs + one_if (p x)
count_more p xs x = by (p x) refl
  where
    by : (b : Bool) → p x ≡ b → count_by p (xs ++ x ∷ []) ≡ count_by p xs + one_if (p x)
    by true e = sum_by-append (λ y. cond (p y) 1 0) xs (x ∷ []) ∙ ap (λ (b : Bool). sum_by (λ y. cond (p y) 1 0) xs + (0 + cond b 1 0)) e ∙ ap (λ (b : Bool). count_by p xs + one_if b) (sym e)
    by false e = sum_by-append (λ y. cond (p y) 1 0) xs (x ∷ []) ∙ ap (λ (b : Bool). sum_by (λ y. cond (p y) 1 0) xs + (0 + cond b 1 0)) e ∙ ap (λ (b : Bool). count_by p xs + one_if b) (sym e)

-- ---- the first of those that pass a test

module _ {X : Type 0} (most : ℕ) (ys : List X) where
  roomy : length (take most ys) < most → length ys < most
  roomy h = omega (arith, h, length-take most ys)

  taken : (x : X) → length (take most ys) < most → take most (ys ++ x ∷ []) ≡ take most ys ++ x ∷ []
  taken x h =
      let room = roomy h in
      take_all most (ys ++ x ∷ []) (omega (arith, room, length-append ys (x ∷ [])))
      ∙ ap (λ (l : List X). l ++ x ∷ []) (sym (take_all most ys (omega (arith, room))))

  pub full : (zs : List X) → most ≤ length (take most ys) → take most (ys ++ zs) ≡ take most ys
  full zs h = take-append-le most ys zs (omega (arith, h, length-take most ys))

  below : (n : ℕ) → n ≡ length (take most ys) → nat_lt n most ≡ true → length (take most ys) < most
  below n is e = let it : n < most = grind (arith, nat_tests) in omega (arith, it, is)

  pub past : (n : ℕ) → n ≡ length (take most ys) → nat_lt n most ≡ false → most ≤ length (take most ys)
  past n is e = let it : most ≤ n = grind (arith, nat_tests) in omega (arith, it, is)

  with_one : (x : X) (n : ℕ) → n ≡ length (take most ys) → (room passes : Bool) → nat_lt n most ≡ room
      → take most (ys ++ (if passes then x ∷ [] else [])) ≡ take most ys ++ (if room && passes then x ∷ [] else [])
  with_one x n is true true e = taken x (below n is e)
  with_one x n is true false e = ap (take most) (append-nil ys) ∙ sym (append-nil (take most ys))
  with_one x n is false true e = full (x ∷ []) (past n is e) ∙ sym (append-nil (take most ys))
  with_one x n is false false e = ap (take most) (append-nil ys) ∙ sym (append-nil (take most ys))

-- one more is among the first that pass where there is room for it
pub first_more : {X : Type 0} (p : X → Bool) (most : ℕ) (xs : List X) (x : X) (n : ℕ) → n ≡ length (take most (filter p xs))
    → take most (filter p (xs ++ x ∷ [])) ≡ take most (filter p xs) ++ (if nat_lt n most && p x then x ∷ [] else [])
first_more p most xs x n is =
    ap (take most) (filter-append p xs (x ∷ [])) ∙ with_one most (filter p xs) x n is (nat_lt n most) (p x) refl

pub longer : {X : Type 0} (ys : List X) (x : X) (n : ℕ) → n ≡ length ys → (b : Bool)
    → (if b then n + 1 else n) ≡ length (ys ++ (if b then x ∷ [] else []))
longer ys x n is true = omega (arith, is, length-append ys (x ∷ []))
longer ys x n is false = is ∙ ap (λ (l : List _). length l) (sym (append-nil ys))

-- one more is told behind others, where it is
pub told_more : {X : Type 0} (f : X → List ℕ) (xs : List X) (x : X) (b : Bool) (before text now : List ℕ) → text ≡ before ++ flat_map f xs
    → now ≡ text ++ (if b then f x else []) → now ≡ before ++ flat_map f (xs ++ (if b then x ∷ [] else []))
told_more f xs x true before text now told one =
    one ∙ ap (λ (t : List ℕ). t ++ f x) told ∙ append_assoc before (flat_map f xs) (f x)
    ∙ ap (λ (l : List ℕ). before ++ (flat_map f xs ++ l)) (sym (append-nil (f x)))
    ∙ ap (λ (l : List ℕ). before ++ l) (sym (flat_map-append f xs (x ∷ [])))
told_more f xs x false before text now told one =
    one ∙ append-nil text ∙ told ∙ ap (λ (l : List _). before ++ flat_map f l) (sym (append-nil xs))

positive : (n : ℕ) → nat_lt 0 (suc n) ≡ true
positive n = grind (arith, nat_tests)

-- some pass where the first that do are not none
pub some_first : {X : Type 0} (p : X → Bool) (most : ℕ) (xs : List X) → nat_lt 0 (length (take (suc most) (filter p xs))) ≡ list_any p xs
some_first p most [] = refl
some_first p most (x ∷ xs) = by (p x) refl (some_first p most xs)
  where
    by : (b : Bool) → p x ≡ b → nat_lt 0 (length (take (suc most) (filter p xs))) ≡ list_any p xs
        → nat_lt 0 (length (take (suc most) (filter p (x ∷ xs)))) ≡ list_any p (x ∷ xs)
    by true e rest = rw e (positive (length (take most (filter p xs))))
    by false e rest = rw e rest
