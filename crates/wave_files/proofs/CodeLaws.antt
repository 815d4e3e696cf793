-- No two variables have one code.
use Rattle.std.proofs.Common.{◌≡◌, ◌<◌, ◌+◌, ◌*◌, ℕ, Bool, true, false, ◌==◌, List, [], ◌∷◌, drop, refl, sym, ap, arith, if◌then◌else◌}
use Rattle.std.specs.Prelude.{◌/◌, ◌%◌, slice_get, unwrap_or}
use Rattle.std.proofs.lemmas.Bool.{eqb-true}
use Rattle.std.proofs.Math.Nat.{div-add-mod}
use Rattle.wave_files.specs.Codes.{code_digit, further_digits, last_digits}
use Rattle.wave_files.specs.Laws.{CodesDiffer, CodesSuffice}

abbrev head_of : List ℕ → ℕ
head_of l = unwrap_or (slice_get l 0) 0

-- a number is its quotient and its remainder
whole : (m n : ℕ) → m / 94 ≡ n / 94 → m % 94 ≡ n % 94 → m ≡ n
whole m n q r = omega (arith, div-add-mod m 94, div-add-mod n 94, q, r)

same_digit : (m n : ℕ) (xs ys : List ℕ) → code_digit m ∷ xs ≡ code_digit n ∷ ys → m % 94 ≡ n % 94
same_digit m n xs ys e = let h : m % 94 + 33 ≡ n % 94 + 33 = ap head_of e in omega (arith, h)

tails : (x y : ℕ) (xs ys : List ℕ) → x ∷ xs ≡ y ∷ ys → xs ≡ ys
tails x y xs ys e = ap (λ (l : List ℕ). drop 1 l) e

-- the rest of a code says the quotient, where what is written of a quotient says it
rests : (say : ℕ → List ℕ) (m n : ℕ) → ((a : ℕ) → say a ≡ [] → ⊥) → (say m ≡ say n → m ≡ n)
    → (if m == 0 then [] else say m) ≡ (if n == 0 then [] else say n) → m ≡ n
rests say m n some told e = by (m == 0) refl (n == 0) refl e
  where
    by : (a : Bool) → (m == 0) ≡ a → (b : Bool) → (n == 0) ≡ b → (if a then [] else say m) ≡ (if b then [] else say n) → m ≡ n
    by true is true at e = omega (arith, eqb-true m 0 is, eqb-true n 0 at)
    by true is false at e = absurd (some n (sym e))
    by false is true at e = absurd (some m e)
    by false is false at e = told e

last_digit : (m n : ℕ) → m < 94 → n < 94 → code_digit m ∷ [] ≡ code_digit n ∷ [] → m ≡ n
last_digit m n a b e = let r = same_digit m n [] [] e in omega (arith, r, a, b)

last : (m n : ℕ) → m < 94 * 94 → n < 94 * 94 → last_digits m ≡ last_digits n → m ≡ n
last m n a b e =
    whole m n
    (rests (λ (q : ℕ). code_digit q ∷ []) (m / 94) (n / 94) (λ q none. cc) (last_digit (m / 94) (n / 94) (omega (arith, a)) (omega (arith, b)))
    (tails (code_digit m) (code_digit n) _ _ e))
    (same_digit m n _ _ e)

further : (m n : ℕ) → m < 94 * 94 * 94 → n < 94 * 94 * 94 → further_digits m ≡ further_digits n → m ≡ n
further m n a b e =
    whole m n
    (rests last_digits (m / 94) (n / 94) (λ q none. cc) (last (m / 94) (n / 94) (omega (arith, a)) (omega (arith, b)))
    (tails (code_digit m) (code_digit n) _ _ e))
    (same_digit m n _ _ e)

pub codes_differ : CodesDiffer
codes_differ m n a b e =
    whole m n
    (rests further_digits (m / 94) (n / 94) (λ q none. cc) (further (m / 94) (n / 94) (omega (arith, a)) (omega (arith, b)))
    (tails (code_digit m) (code_digit n) _ _ e))
    (same_digit m n _ _ e)

pub codes_suffice : CodesSuffice
codes_suffice = omega arith
