-- A list of pins divided in two.
use Rattle.std.proofs.Common.{◌≡◌, List, [], ◌∷◌, ◌++◌, sym, subst, ⊎_elim, inl, inr}
use Rattle.std.specs.List.{Contains}
use Rattle.std.proofs.lemmas.List.Elements.{Contains-append_left, Contains-push, Contains-push_cases}
use Rattle.board_chips.specs.Blocks.{AreParts}
use Rattle.board_chips.specs.declared.driving.DrivingPin.{DrivingPin}

pushed : (l : List DrivingPin) (x e : DrivingPin) → x ≡ e → Contains (l ++ x ∷ []) e
pushed l x e same = subst (Contains (l ++ x ∷ [])) same (Contains-push l x)

-- one more in the first
first-more : (all one other : List DrivingPin) (x : DrivingPin) → AreParts all one other → AreParts (all ++ x ∷ []) (one ++ x ∷ []) other
first-more all one other x p = record {
  first = λ e has. ⊎_elim
      (λ (old : Contains one e). Contains-append_left all (x ∷ []) e (p.first e old))
      (λ (same : x ≡ e). pushed all x e same)
      (Contains-push_cases one x e has);
  second = λ e has. Contains-append_left all (x ∷ []) e (p.second e has);
  both = λ e has. ⊎_elim
      (λ (old : Contains all e). ⊎_elim
      (λ (there : Contains one e). inl (Contains-append_left one (x ∷ []) e there))
      (λ (there : Contains other e). inr there)
      (p.both e old))
      (λ (same : x ≡ e). inl (pushed one x e same))
      (Contains-push_cases all x e has);
}

-- one more in the second
second-more : (all one other : List DrivingPin) (x : DrivingPin) → AreParts all one other → AreParts (all ++ x ∷ []) one (other ++ x ∷ [])
second-more all one other x p = record {
  first = λ e has. Contains-append_left all (x ∷ []) e (p.first e has);
  second = λ e has. ⊎_elim
      (λ (old : Contains other e). Contains-append_left all (x ∷ []) e (p.second e old))
      (λ (same : x ≡ e). pushed all x e same)
      (Contains-push_cases other x e has);
  both = λ e has. ⊎_elim
      (λ (old : Contains all e). ⊎_elim
      (λ (there : Contains one e). inl there)
      (λ (there : Contains other e). inr (Contains-append_left other (x ∷ []) e there))
      (p.both e old))
      (λ (same : x ≡ e). inr (pushed other x e same))
      (Contains-push_cases all x e has);
}

parts-as : (all one other all-now one-now other-now : List DrivingPin) → all-now ≡ all → one-now ≡ one → other-now ≡ other → AreParts all one other → AreParts all-now one-now other-now
parts-as all one other all-now one-now other-now a b c p =
    subst (λ (l : List DrivingPin). AreParts l one-now other-now) (sym a)
    (subst (λ (l : List DrivingPin). AreParts all l other-now) (sym b) (subst (AreParts all one) (sym c) p))

pub first_more : (all one other all-now one-now other-now : List DrivingPin) (x : DrivingPin) → all-now ≡ all ++ x ∷ [] → one-now ≡ one ++ x ∷ [] → other-now ≡ other
    → AreParts all one other → AreParts all-now one-now other-now
first_more all one other all-now one-now other-now x a b c p =
    parts-as (all ++ x ∷ []) (one ++ x ∷ []) other all-now one-now other-now a b c (first-more all one other x p)

pub second_more : (all one other all-now one-now other-now : List DrivingPin) (x : DrivingPin) → all-now ≡ all ++ x ∷ [] → one-now ≡ one → other-now ≡ other ++ x ∷ []
    → AreParts all one other → AreParts all-now one-now other-now
second_more all one other all-now one-now other-now x a b c p =
    parts-as (all ++ x ∷ []) one (other ++ x ∷ []) all-now one-now other-now a b c (second-more all one other x p)
