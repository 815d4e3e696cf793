-- The faults that are left.
use Rattle.std.proofs.Common.{◌≡◌, ◌<◌, ◌≤◌, ℕ, zero, suc, ◌+◌, List, [], ◌∷◌, ◌++◌, length, map, drop, get_or, slice_get, Option, Some, None, option_map, refl, sym, ap, ◌∙◌, arith, ⊎_elim}
use Rattle.std.proofs.Math.Seq.{drop-cons}
use Rattle.std.proofs.lemmas.Bool.{cases_lt}
use Rattle.std.proofs.lemmas.List.{length-map}
use Rattle.std.proofs.lemmas.Option.{get_or_from_slice_get, slice_get-get_or, slice_get-map, slice_get_within}
use Rattle.pin_nets.specs.Wired.{Net}
use Rattle.board_plan.specs.declared.plan.PlannedNet.{PlannedNet}
use Rattle.board_plan.specs.View.{net as planned_net}
use Rattle.board_faults.specs.declared.kinds.Fault.{Fault}
use Rattle.board_faults.specs.Faults.{faults_from, faults_of}
use Rattle.board_faults.specs.Listing.{left, left_in}

-- of a list from a place on, the one there and the others
pub from_there : {X : Type 0} (xs : List X) (k : ℕ) (x : X) → slice_get xs k ≡ Some x → drop k xs ≡ x ∷ drop (k + 1) xs
from_there {X = X} xs k x is =
    let next : suc k ≡ k + 1 = omega arith in
    drop-cons xs k x (slice_get_within xs k x is) ∙ ap (λ (y : X). y ∷ drop (suc k) xs) (get_or_from_slice_get xs k x x is) ∙ ap (λ (j : ℕ). x ∷ drop j xs) next

gone : {X : Type 0} (xs : List X) (k : ℕ) → length xs ≤ k → drop k xs ≡ []
gone [] zero past = refl
gone [] (suc k) past = refl
gone (x ∷ xs) zero past = absurd (omega (arith, past))
gone (x ∷ xs) (suc k) past = gone xs k (omega (arith, past))

pub none_there : {X : Type 0} (xs : List X) (k : ℕ) → slice_get xs k ≡ None → drop k xs ≡ []
none_there {X = X} xs k is =
    ⊎_elim
    (λ (less : k < length xs). absurd (both (slice_get xs k) is (first xs k less)))
    (λ past. gone xs k past)
    (cases_lt k (length xs))
  where
    both : (o : Option X) → o ≡ None → ((x : X) × (o ≡ Some x)) → ⊥
    both None e h = cc
    both (Some x) e h = cc

    first : (xs : List X) (k : ℕ) → k < length xs → (x : X) × (slice_get xs k ≡ Some x)
    first [] k h = absurd (omega arith)
    first (x ∷ xs) k h = (get_or (x ∷ xs) k x, slice_get-get_or (x ∷ xs) k x h)

pub left_some : (nets : List Net) (net at : ℕ) (n : Net) (f : Fault) → slice_get nets net ≡ Some n → slice_get (faults_of (length nets) net n) at ≡ Some f
    → left nets net at ≡ f ∷ left nets net (at + 1)
left_some nets net at n f stands is =
    let here = from_there nets net n stands in
    let own = from_there (faults_of (length nets) net n) at f is in
    let rest = faults_from (length nets) (suc net) (drop (net + 1) nets) in
    ap (left_in (length nets) net at) here ∙ ap (λ (l : List Fault). l ++ rest) own
    ∙ ap (λ (l : List Fault). f ∷ l) (sym (ap (left_in (length nets) net (at + 1)) here))

pub all_left : (count net : ℕ) (ns : List Net) → left_in count net 0 ns ≡ faults_from count net ns
all_left count net [] = refl
all_left count net (n ∷ ns) = refl

pub left_none : (nets : List Net) (net at : ℕ) (n : Net) → slice_get nets net ≡ Some n → slice_get (faults_of (length nets) net n) at ≡ None
    → left nets net at ≡ left nets (net + 1) 0
left_none nets net at n stands is =
    let here = from_there nets net n stands in
    let own = none_there (faults_of (length nets) net n) at is in
    let next : suc net ≡ net + 1 = omega arith in
    let rest = faults_from (length nets) (suc net) (drop (net + 1) nets) in
    ap (left_in (length nets) net at) here ∙ ap (λ (l : List Fault). l ++ rest) own
    ∙ ap (λ (j : ℕ). faults_from (length nets) j (drop (net + 1) nets)) next
    ∙ sym (all_left (length nets) (net + 1) (drop (net + 1) nets))

pub left_past : (nets : List Net) (net at : ℕ) → length nets ≤ net → left nets net at ≡ []
left_past nets net at past = ap (left_in (length nets) net at) (gone nets net past)

-- ---- the steps as they are taken

stands_there : (nets : List PlannedNet) (net : ℕ) (d : PlannedNet) → net < length nets → slice_get (map planned_net nets) net ≡ Some (planned_net (get_or nets net d))
stands_there nets net d h = slice_get-map planned_net nets net ∙ ap (option_map planned_net) (slice_get-get_or nets net d h)

pub step_some : (nets : List PlannedNet) (net at : ℕ) (d : PlannedNet) (f : Fault) → net < length nets → Some f ≡ slice_get (faults_of (length nets) net (planned_net (get_or nets net d))) at
    → left (map planned_net nets) net at ≡ f ∷ left (map planned_net nets) net (at + 1)
step_some nets net at d f h told =
    left_some (map planned_net nets) net at (planned_net (get_or nets net d)) f (stands_there nets net d h)
    (ap (λ (k : ℕ). slice_get (faults_of k net (planned_net (get_or nets net d))) at) (length-map nets planned_net) ∙ sym told)

pub step_none : (nets : List PlannedNet) (net at : ℕ) (d : PlannedNet) → net < length nets → None ≡ slice_get (faults_of (length nets) net (planned_net (get_or nets net d))) at
    → left (map planned_net nets) net at ≡ left (map planned_net nets) (net + 1) 0
step_none nets net at d h told =
    left_none (map planned_net nets) net at (planned_net (get_or nets net d)) (stands_there nets net d h)
    (ap (λ (k : ℕ). slice_get (faults_of k net (planned_net (get_or nets net d))) at) (length-map nets planned_net) ∙ sym told)
