-- A truth that is tested from a place on.
use Rattle.std.proofs.Common.{◌≡◌, ◌+◌, ◌≤◌, ℕ, zero, suc, Bool, true, ◌&&◌, List, [], ◌∷◌, drop, length, Some, refl, ap, ◌∙◌, arith}
use Rattle.std.specs.Prelude.{slice_get}
use Rattle.std.specs.List.{list_all}
use Rattle.wave_files.proofs.Numbers.{same_some}

module _ {X : Type 0} (test : X → Bool) where
  at : (xs : List X) (i : ℕ) (x : X) → slice_get xs i ≡ Some x → list_all test (drop i xs) ≡ (test x && list_all test (drop (suc i) xs))
  at [] zero x e = absurd cc
  at [] (suc i) x e = absurd cc
  at (y ∷ xs) zero x e = ap (λ z. test z && list_all test xs) (same_some y x e)
  at (y ∷ xs) (suc i) x e = at xs i x e

  pub next : (xs : List X) (i : ℕ) (x : X) → slice_get xs i ≡ Some x → list_all test (drop i xs) ≡ (test x && list_all test (drop (i + 1) xs))
  next xs i x e =
      let more : suc i ≡ i + 1 = omega arith in
      at xs i x e ∙ ap (λ n. test x && list_all test (drop n xs)) more

  pub over : (xs : List X) (i : ℕ) → length xs ≤ i → list_all test (drop i xs) ≡ true
  over [] zero h = refl
  over [] (suc i) h = refl
  over (y ∷ xs) zero h = absurd (omega (arith, h))
  over (y ∷ xs) (suc i) h = over xs i (omega (arith, h))
