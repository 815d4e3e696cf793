-- Strings at their places, and loops.
use Rattle.std.proofs.Common.{◌≡◌, ◌<◌, ◌≤◌, ◌+◌, ℕ, zero, suc, List, length, get_or, slice_get, Some, All, refl, sym, subst, below_more, arith}
use Rattle.std.proofs.lemmas.List.{get_or_default}
use Rattle.std.proofs.lemmas.Option.{get_or_from_slice_get, slice_get-get_or, slice_get_within}
use Rattle.board_loops.specs.Loops.{DependsOn, HasNoLoop, HasString, InSteps, IsFirstOnLoop, IsOnLoop}
use Rattle.board_loops.specs.declared.net_loops.Dependency.{Dependency}

-- what holds of all holds of the one at a place
pub all_at : {X : Type 0} (P : X → Type 0) (xs : List X) → All P xs → (k : ℕ) (x : X) → slice_get xs k ≡ Some x → P x
all_at P xs all k x stands = subst P (get_or_from_slice_get xs k x x stands) (all k x (slice_get_within xs k x stands))

-- what holds of all before a place and at it
pub all_more : {X : Type 0} (P : X → Type 0) (xs : List X) (i : ℕ) (e : X) → i < length xs → ((k : ℕ) → k < i → (d : X) → P (get_or xs k d)) → P (get_or xs i e)
    → (k : ℕ) → k < i + 1 → (d : X) → P (get_or xs k d)
all_more {X} P xs i e inside before now = below_more (λ (k : ℕ). (d : X) → P (get_or xs k d)) i before (λ d. subst P (get_or_default xs i e d inside) now)

pub string_there : (strings : List Dependency) (k : ℕ) (d : Dependency) → k < length strings → HasString strings (get_or strings k d).target (get_or strings k d).source
string_there strings k d inside = (k, slice_get-get_or strings k d inside)

-- one step more at the end
pub one_step_more : (strings : List Dependency) (net source : ℕ) → HasString strings net source → (n first : ℕ) → InSteps strings n first net → InSteps strings (suc n) first source
one_step_more strings net source there zero first path = (source, subst (λ (x : ℕ). HasString strings x source) (sym path) there, refl)
one_step_more strings net source there (suc n) first path = (path.0, path.1, one_step_more strings net source there n path.0 path.2)

-- ---- the string at a place

module _ (strings : List Dependency) (k : ℕ) (d : Dependency) (inside : k < length strings) where
  pub first_found : DependsOn strings (get_or strings k d).source (get_or strings k d).target → ((j : ℕ) → j < k → IsOnLoop strings j → ⊥) → IsFirstOnLoop strings k
  first_found back none = record {
    on_loop = record { string = get_or strings k d; stands = slice_get-get_or strings k d inside; back = back };
    first = none;
  }

  pub not_on_loop : (DependsOn strings (get_or strings k d).source (get_or strings k d).target → ⊥) → IsOnLoop strings k → ⊥
  not_on_loop none loop = none (subst (λ (x : Dependency). DependsOn strings x.source x.target) (sym (get_or_from_slice_get strings k loop.string d loop.stands)) loop.back)

pub has_no_loop : (strings : List Dependency) (n : ℕ) → length strings ≤ n → ((j : ℕ) → j < n → IsOnLoop strings j → ⊥) → HasNoLoop strings
has_no_loop strings n past none place loop = none place (omega (arith, past, slice_get_within strings place loop.string loop.stands)) loop
