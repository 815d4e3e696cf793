-- Failures, listed and counted.
use Rattle.std.proofs.Common.{◌≡◌, ℕ, zero, suc, ◌+◌, ◌<◌, ◌≤◌, List, [], ◌∷◌, ◌++◌, length, take, refl, sym, ap, ◌∙◌, arith, append_assoc, length-append}
use Rattle.scan_vectors.specs.declared.failures.Mismatch.{Mismatch}
use Rattle.scan_vectors.specs.Failures.{Found, most_listed, with_found}

take-again : {A : Type 0} (n : ℕ) (xs ys : List A) → take n (take n xs ++ ys) ≡ take n (xs ++ ys)
take-again zero xs ys = refl
take-again (suc n) [] ys = refl
take-again (suc n) (x ∷ xs) ys = ap (λ l. x ∷ l) (take-again n xs ys)

-- some failures, and then others
pub found-twice : (a b : List Mismatch) (f : Found) → with_found b (with_found a f) ≡ with_found (a ++ b) f
found-twice a b f =
    let lists : take most_listed (take most_listed (f.list ++ a) ++ b) ≡ take most_listed (f.list ++ (a ++ b)) =
    take-again most_listed (f.list ++ a) b ∙ ap (take most_listed) (append_assoc f.list a b) in
    let totals : f.total + length a + length b ≡ f.total + length (a ++ b) = omega (arith, length-append a b) in
    (λ k. record { list = lists k; total = totals k })

pub keep-more : {A : Type 0} (n : ℕ) (l : List A) (x : A) → length l < n → take n (l ++ x ∷ []) ≡ l ++ x ∷ []
keep-more zero l x less = absurd (omega (arith, less))
keep-more (suc zero) [] x less = refl
keep-more (suc (suc n)) [] x less = refl
keep-more (suc n) (y ∷ l) x less = ap (λ k. y ∷ k) (keep-more n l x (omega (arith, less)))

pub keep-full : {A : Type 0} (n : ℕ) (l : List A) (x : A) → length l ≡ n → take n (l ++ x ∷ []) ≡ l
keep-full zero [] x e = refl
keep-full zero (y ∷ l) x e = absurd (omega (arith, e))
keep-full (suc n) [] x e = absurd (omega (arith, e))
keep-full (suc n) (y ∷ l) x e = ap (λ k. y ∷ k) (keep-full n l x (omega (arith, e)))

keep-none : {A : Type 0} (n : ℕ) (l : List A) → length l ≤ n → take n (l ++ []) ≡ l
keep-none zero [] le = refl
keep-none zero (x ∷ l) le = absurd (omega (arith, le))
keep-none (suc n) [] le = refl
keep-none (suc n) (x ∷ l) le = ap (λ k. x ∷ k) (keep-none n l (omega (arith, le)))

-- no further failure
pub found-none : (f : Found) → length f.list ≤ most_listed → with_found [] f ≡ f
found-none f few =
    let total : f.total + 0 ≡ f.total = omega arith in
    (λ k. record { list = keep-none most_listed f.list few k; total = total k })
