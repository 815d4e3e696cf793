-- Pieces that are written one after another.
use Rattle.std.proofs.Common.{◌≡◌, ℕ, suc, ◌+◌, ◌<◌, List, [], ◌∷◌, ◌++◌, length, take, drop, get_or, refl, sym, ap, ◌∙◌, arith, drop-cons}
use Rattle.std.specs.Prelude.{flat_map, map, false, Result, Ok, Err, IsErr, is_ok}
use Rattle.std.proofs.Math.Seq.{take-suc}
use Rattle.std.proofs.lemmas.Grind.{flat_map-append}
use Rattle.std.proofs.lemmas.List.{append-nil, take-append-drop}

pub flat_map-more : {X : Type 0} (f : X → List ℕ) (xs : List X) (i : ℕ) (x : X) → i < length xs
    → flat_map f (take i xs) ++ f (get_or xs i x) ≡ flat_map f (take (i + 1) xs)
flat_map-more f xs i x h =
    let next : i + 1 ≡ suc i = omega arith in
    sym (ap (λ n. flat_map f (take n xs)) next ∙ ap (flat_map f) (take-suc xs i x h) ∙ flat_map-append f (take i xs) (get_or xs i x ∷ [])
    ∙ ap (λ r. flat_map f (take i xs) ++ r) (append-nil (f (get_or xs i x))))

-- what is written before a place, and what is written from there on
pub flat_map-split : {X : Type 0} (f : X → List ℕ) (xs : List X) (i : ℕ) → flat_map f xs ≡ flat_map f (take i xs) ++ flat_map f (drop i xs)
flat_map-split f xs i = ap (flat_map f) (sym (take-append-drop i xs)) ∙ flat_map-append f (take i xs) (drop i xs)

-- what is left from a place on is what stands there, and what is left behind it
pub map-left : {X : Type 0} (f : X → List ℕ) (xs : List X) (i : ℕ) (x : X) → i < length xs
    → map f (drop i xs) ≡ f (get_or xs i x) ∷ map f (drop (i + 1) xs)
map-left f xs i x h =
    let next : suc i ≡ i + 1 = omega arith in
    ap (map f) (drop-cons xs i x h ∙ ap (λ n. get_or xs i x ∷ drop n xs) next)

pub err-is-not-ok : {A E : Type 0} (r : Result A E) → IsErr r → is_ok r ≡ false
err-is-not-ok (Ok x) so = absurd (cc)
err-is-not-ok (Err e) so = refl
