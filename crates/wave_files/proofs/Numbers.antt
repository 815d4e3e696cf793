-- What is said of variables by their numbers, one after another.
use Rattle.std.proofs.Common.{◌≡◌, ◌≤◌, ℕ, zero, suc, ◌+◌, ◌*◌, List, [], ◌∷◌, ◌++◌, length, take, drop, refl, sym, ap, subst, ◌∙◌, arith, append_assoc, Option, Some, None, option_map, Result, Ok}
use Rattle.std.specs.Prelude.{slice_get, unwrap_or, zip, IsErr}
use Rattle.std.specs.Io.KnownBytes.{Appends}
use Rattle.std.proofs.KnownBytes.{Appends-trans}
use Rattle.std.proofs.lemmas.List.{append-nil, take_all}
use Rattle.byte_streams.specs.Counts.{CountedView}
use Rattle.byte_streams.specs.Writes.{WritesAll}
use Rattle.byte_streams.proofs.Fronts.{WritesAll-lost, WritesAll-done}
use Rattle.wave_files.specs.Values.{by_numbers}

-- the number of variable i
abbrev pub number : (step n i : ℕ) → ℕ
number step n zero = n
number step n (suc i) = number step (n + step) i

pub by_three : (n i : ℕ) → number 3 n i ≡ n + 3 * i
by_three n zero = omega arith
by_three n (suc i) = let rest = by_three (n + 3) i in omega (arith, rest)

pub by_two : (n i : ℕ) → number 2 n i ≡ n + 2 * i
by_two n zero = omega arith
by_two n (suc i) = let rest = by_two (n + 2) i in omega (arith, rest)

pub by_one : (n i : ℕ) → number 1 n i ≡ n + i
by_one n zero = omega arith
by_one n (suc i) = let rest = by_one (n + 1) i in omega (arith, rest)

pub same_some : {X : Type 0} (x y : X) → Some x ≡ Some y → x ≡ y
same_some x y e = ap (λ (o : Option _). unwrap_or o x) e

module _ {X : Type 0} (say : ℕ → X → List ℕ) (step : ℕ) where
  one_more : (xs : List X) (i n : ℕ) (x : X) → slice_get xs i ≡ Some x
      → by_numbers say step n (take i xs) ++ say (number step n i) x ≡ by_numbers say step n (take (suc i) xs)
  one_more [] zero n x at = absurd cc
  one_more [] (suc i) n x at = absurd cc
  one_more (y ∷ xs) zero n x at = ap (say n) (sym (same_some y x at)) ∙ sym (append-nil (say n y))
  one_more (y ∷ xs) (suc i) n x at =
      append_assoc (say n y) (by_numbers say step (n + step) (take i xs)) (say (number step (n + step) i) x)
      ∙ ap (λ l. say n y ++ l) (one_more xs i (n + step) x at)

  cut : (xs : List X) (i n : ℕ) → by_numbers say step n xs ≡ by_numbers say step n (take i xs) ++ by_numbers say step (number step n i) (drop i xs)
  cut xs zero n = refl
  cut [] (suc i) n = refl
  cut (y ∷ xs) (suc i) n =
      ap (λ l. say n y ++ l) (cut xs i (n + step))
      ∙ sym (append_assoc (say n y) (by_numbers say step (n + step) (take i xs)) (by_numbers say step (number step (n + step) i) (drop i xs)))

  module _ (n : ℕ) (xs : List X) (i m : ℕ) (x : X) (there : slice_get xs i ≡ Some x) (numbered : m ≡ number step n i) where
    added : by_numbers say step n (take i xs) ++ say m x ≡ by_numbers say step n (take (i + 1) xs)
    added =
        let next : suc i ≡ i + 1 = omega arith in
        ap (λ (k : ℕ). by_numbers say step n (take i xs) ++ say k x) numbered ∙ one_more xs i n x there
        ∙ ap (λ (k : ℕ). by_numbers say step n (take k xs)) next

    -- one more is written
    pub written : (a b c : Option (List ℕ)) → Appends a b (by_numbers say step n (take i xs)) → Appends b c (say m x)
        → Appends a c (by_numbers say step n (take (i + 1) xs))
    written a b c before one = subst (λ (l : List ℕ). Appends a c l) added (Appends-trans a b c _ _ before one)

    -- the next is lost
    pub lost : {W A E B F : Type 0} {contents : W → Option (List ℕ)} {a b c : CountedView W} {first : Result A E} {result : Result B F}
        → Appends (contents a.inner) (contents b.inner) (by_numbers say step n (take i xs))
        → WritesAll contents b c (say m x) first → IsErr first → IsErr result → WritesAll contents a c (by_numbers say step n xs) result
    lost before one is so =
        let rest = by_numbers say step (number step n (i + 1)) (drop (i + 1) xs) in
        WritesAll-lost (by_numbers say step n xs) (by_numbers say step n (take i xs)) rest
        (cut xs (i + 1) n ∙ ap (λ (l : List ℕ). l ++ rest) (sym added)) before one is so

  -- all are written
  pub done : {W A E : Type 0} {contents : W → Option (List ℕ)} {a b : CountedView W} (value : A) (n : ℕ) (xs : List X) (i : ℕ) → length xs ≤ i
      → b.failures ≡ 0 → Appends (contents a.inner) (contents b.inner) (by_numbers say step n (take i xs))
      → WritesAll {A = A} {E = E} contents a b (by_numbers say step n xs) (Ok value)
  done {contents = contents} {a = a} {b = b} value n xs i over none before =
      WritesAll-done value none
      (subst (λ (l : List X). Appends (contents a.inner) (contents b.inner) (by_numbers say step n l)) (take_all i xs over) before)

-- ---- what stands at a place

pub both_there : {X Y : Type 0} (xs : List X) (ys : List Y) (i : ℕ) (x : X) (y : Y) → slice_get xs i ≡ Some x → slice_get ys i ≡ Some y
    → slice_get (zip xs ys) i ≡ Some (x, y)
both_there [] ys zero x y ex ey = absurd cc
both_there [] ys (suc i) x y ex ey = absurd cc
both_there (a ∷ xs) [] zero x y ex ey = absurd cc
both_there (a ∷ xs) [] (suc i) x y ex ey = absurd cc
both_there (a ∷ xs) (b ∷ ys) zero x y ex ey = λ k. Some (same_some a x ex k, same_some b y ey k)
both_there (a ∷ xs) (b ∷ ys) (suc i) x y ex ey = both_there xs ys i x y ex ey

pub both_long : {X Y : Type 0} (xs : List X) (ys : List Y) → length ys ≡ length xs → length (zip xs ys) ≡ length xs
both_long [] ys e = refl
both_long (a ∷ xs) [] e = absurd cc
both_long (a ∷ xs) (b ∷ ys) e = ap suc (both_long xs ys (omega (arith, e)))

-- what is there, by what is said of it
pub record There {X Y : Type 0} (f : X → Y) (o : Option X) (y : Y) : Type 0 where
  pub thing : X
  pub is : o ≡ Some thing
  pub says : f thing ≡ y

pub there_is : {X Y : Type 0} (f : X → Y) (o : Option X) (y : Y) → option_map f o ≡ Some y → There f o y
there_is f None y e = absurd cc
there_is f (Some x) y e = record { thing = x; is = refl; says = same_some (f x) y e }
