-- Lists that begin with another list.
use Rattle.std.proofs.Common.{◌≡◌, ℕ, ◌≤◌, List, [], ◌∷◌, ◌++◌, map, length, take, drop, refl, sym, ap, ◌∙◌, arith, append_assoc, length-append, take-append-drop}
use Rattle.play_model.specs.Fronts.{IsPrefix}

pub front-trans : {X : Type 0} (xs ys zs : List X) → IsPrefix xs ys → IsPrefix ys zs → IsPrefix xs zs
front-trans xs ys zs p q = (p.0 ++ q.0, sym (append_assoc xs p.0 q.0) ∙ ap (λ r. r ++ q.0) p.1 ∙ q.1)

pub front-append : {X : Type 0} (xs ys zs : List X) → IsPrefix ys zs → IsPrefix (xs ++ ys) (xs ++ zs)
front-append xs ys zs p = (p.0, append_assoc xs ys p.0 ∙ ap (λ r. xs ++ r) p.1)

pub front-left : {X : Type 0} (xs ys zs : List X) → IsPrefix (xs ++ ys) zs → IsPrefix xs zs
front-left xs ys zs p = (ys ++ p.0, sym (append_assoc xs ys p.0) ∙ p.1)

pub front-take : {X : Type 0} (n : ℕ) (xs : List X) → IsPrefix (take n xs) xs
front-take n xs = (drop n xs, take-append-drop n xs)

pub front-map : {X Y : Type 0} (f : X → Y) (xs ys : List X) → IsPrefix xs ys → IsPrefix (map f xs) (map f ys)
front-map f xs ys p = (map f p.0, sym (split xs p.0) ∙ ap (map f) p.1)
  where
    split : (us vs : List _) → map f (us ++ vs) ≡ map f us ++ map f vs
    split [] vs = refl
    split (u ∷ us) vs = ap (λ r. f u ∷ r) (split us vs)

pub front-length : {X : Type 0} (xs ys : List X) → IsPrefix xs ys → length xs ≤ length ys
front-length xs ys p = omega (arith, length-append xs p.0, ap length p.1)

pub empty-append : {X : Type 0} (xs ys : List X) → xs ++ ys ≡ [] → ys ≡ []
empty-append [] ys e = e
empty-append (x ∷ xs) ys e = absurd (cc)

pub empty-length : {X : Type 0} (xs : List X) → length xs ≡ 0 → xs ≡ []
empty-length [] e = refl
empty-length (x ∷ xs) e = absurd (omega arith)
