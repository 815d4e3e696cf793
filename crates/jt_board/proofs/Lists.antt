-- What stands at places of lists, and among them.
use Rattle.std.proofs.Common.{◌≡◌, ℕ, zero, suc, ◌+◌, List, [], ◌∷◌, ◌++◌, map, slice_get, Some, refl, ap, subst, ◌⊎◌, inl, inr}
use Rattle.std.specs.List.{AllByRecursion}
use Rattle.std.proofs.lemmas.Option.{none-some, same_Some}
use Rattle.board_model.specs.Following.{IsAmong}

pub each_at : {X : Type 0} (P : X → Type 0) (xs : List X) (i : ℕ) (x : X) → AllByRecursion P xs → slice_get xs i ≡ Some x → P x
each_at P [] i x all at = absurd (none-some x at)
each_at P (y ∷ xs) zero x all at = subst P (same_Some y x at) all.0
each_at P (y ∷ xs) (suc i) x all at = each_at P xs i x all.1 at

pub each_among : {X : Type 0} (P : X → Type 0) (xs : List X) (x : X) → AllByRecursion P xs → IsAmong x xs → P x
each_among P [] x all on = absurd on
each_among P (y ∷ xs) x all (inl is) = subst P is all.0
each_among P (y ∷ xs) x all (inr on) = each_among P xs x all.1 on

-- ---- two lists side by side, each the images of one list and more

module _ {X A B : Type 0} (f : X → A) (g : X → B) where
  -- what stands at a place of the one
  pub beside : (xs : List X) (ys : List A) (zs : List B) (k : ℕ) (a : A) → slice_get (map f xs ++ ys) k ≡ Some a
      → ((x : X) × IsAmong x xs × (f x ≡ a) × (slice_get (map g xs ++ zs) k ≡ Some (g x)))
      ⊎ ((j : ℕ) × (slice_get ys j ≡ Some a) × (slice_get (map g xs ++ zs) k ≡ slice_get zs j))
  beside [] ys zs k a at = inr (k, at, refl)
  beside (x ∷ xs) ys zs zero a at = inl (x, inl refl, same_Some (f x) a at, refl)
  beside (x ∷ xs) ys zs (suc k) a at = elim (beside xs ys zs k a at) [
    | inl it ↦ inl (it.0, inr it.1, it.2, it.3)
    | inr it ↦ inr it
  ]

  -- a place of both for each of the images
  pub in_front : (xs : List X) (ys : List A) (zs : List B) (x : X) → IsAmong x xs
      → (k : ℕ) × (slice_get (map f xs ++ ys) k ≡ Some (f x)) × (slice_get (map g xs ++ zs) k ≡ Some (g x))
  in_front [] ys zs x on = absurd on
  in_front (y ∷ xs) ys zs x (inl is) = (0, ap (λ (z : X). Some (f z)) is, ap (λ (z : X). Some (g z)) is)
  in_front (y ∷ xs) ys zs x (inr on) = let it = in_front xs ys zs x on in (suc it.0, it.1, it.2)

  -- and for what stands behind them
  pub behind : (xs : List X) (ys : List A) (zs : List B) (j : ℕ) (a : A) (b : B) → slice_get ys j ≡ Some a → slice_get zs j ≡ Some b
      → (k : ℕ) × (slice_get (map f xs ++ ys) k ≡ Some a) × (slice_get (map g xs ++ zs) k ≡ Some b)
  behind [] ys zs j a b at-a at-b = (j, at-a, at-b)
  behind (x ∷ xs) ys zs j a b at-a at-b = let it = behind xs ys zs j a b at-a at-b in (suc it.0, it.1, it.2)
