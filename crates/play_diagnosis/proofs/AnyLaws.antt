-- Whether one of a list is so, from a place on.
use Rattle.std.proofs.Common.{◌≡◌, ◌+◌, ℕ, zero, suc, Bool, ◌||◌, List, [], ◌∷◌, drop, slice_get, Some, option_map, refl, sym, ap}
use Rattle.std.specs.List.{list_any}
use Rattle.std.proofs.lemmas.Option.{same_Some}

pub any_from : {X : Type 0} (p : X → Bool) (xs : List X) (i : ℕ) (b : Bool) → Some b ≡ option_map p (slice_get xs i) → list_any p (drop i xs) ≡ (b || list_any p (drop (suc i) xs))
any_from p [] i b e = absurd cc
any_from p (x ∷ xs) zero b e = ap (λ (a : Bool). a || list_any p xs) (sym (same_Some b (p x) e))
any_from p (x ∷ xs) (suc i) b e = any_from p xs i b e
