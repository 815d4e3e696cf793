-- Marks of nets, one after another.
use Rattle.std.proofs.Common.{◌≡◌, ◌<◌, ◌+◌, ℕ, zero, suc, Bool, true, false, not, ◌&&◌, ◌||◌, List, [], ◌∷◌, ◌++◌, length, map, take, drop, get_or, set, append_assoc, refl, sym, ap, ap₂, ◌∙◌, arith}
use Rattle.std.specs.Prelude.{if◌then◌else◌, option_map, slice_get, Some}
use Rattle.std.proofs.lemmas.Option.{same_Some}
use Rattle.std.proofs.Math.Seq.{drop-cons}
use Rattle.std.proofs.lemmas.List.{drop-set-lt, take_more, take_more_set}
use Rattle.play_coverage.specs.declared.contending.Contention.{Contention}
use Rattle.play_coverage.specs.Contending.{contention, either, newly}

next_either : (marks now : List Bool) (k : ℕ) → k < length marks → k < length now
    → either (drop k marks) (drop k now) ≡ (get_or marks k false || get_or now k false) ∷ either (drop (suc k) marks) (drop (suc k) now)
next_either marks now k inside there = ap₂ either (drop-cons marks k false inside) (drop-cons now k false there)

next_newly : (marks now : List Bool) (k : ℕ) → k < length marks → k < length now
    → newly k (drop k marks) (drop k now)
    ≡ (if get_or now k false && not (get_or marks k false) then k ∷ [] else []) ++ newly (suc k) (drop (suc k) marks) (drop (suc k) now)
next_newly marks now k inside there = ap₂ (newly k) (drop-cons marks k false inside) (drop-cons now k false there)

both : (n m : Bool) → (n && not m) ≡ true → (m || n) ≡ true
both true true h = refl
both true false h = refl
both false true h = refl
both false false h = h

one : (n m : Bool) → (n && not m) ≡ false → (m || n) ≡ m
one true true h = refl
one true false h = h
one false true h = refl
one false false h = refl

module _ (marks now : List Bool) (k : ℕ) (inside : k < length marks) (there : k < length now) where
  next : suc k ≡ k + 1
  next = omega arith

  -- a net that is marked now
  pub marked : (get_or now k false && not (get_or marks k false)) ≡ true
      → take (k + 1) (set marks k true) ++ either (drop (k + 1) (set marks k true)) (drop (k + 1) now) ≡ take k marks ++ either (drop k marks) (drop k now)
  marked h =
      ap₂ (λ (xs ys : List Bool). xs ++ either ys (drop (k + 1) now)) (take_more_set marks k true inside) (drop-set-lt (k + 1) marks k true (omega arith))
      ∙ append_assoc (take k marks) (true ∷ []) (either (drop (k + 1) marks) (drop (k + 1) now))
      ∙ ap (λ (n : ℕ). take k marks ++ (true ∷ either (drop n marks) (drop n now))) (sym next)
      ∙ ap (λ (b : Bool). take k marks ++ (b ∷ either (drop (suc k) marks) (drop (suc k) now))) (sym (both (get_or now k false) (get_or marks k false) h))
      ∙ ap (λ (l : List Bool). take k marks ++ l) (sym (next_either marks now k inside there))

  pub marked_found : (command : ℕ) (found : List Contention) → (get_or now k false && not (get_or marks k false)) ≡ true
      → (found ++ contention command k ∷ []) ++ map (contention command) (newly (k + 1) (drop (k + 1) (set marks k true)) (drop (k + 1) now))
      ≡ found ++ map (contention command) (newly k (drop k marks) (drop k now))
  marked_found command found h =
      ap (λ (ys : List Bool). (found ++ contention command k ∷ []) ++ map (contention command) (newly (k + 1) ys (drop (k + 1) now))) (drop-set-lt (k + 1) marks k true (omega arith))
      ∙ append_assoc found (contention command k ∷ []) (map (contention command) (newly (k + 1) (drop (k + 1) marks) (drop (k + 1) now)))
      ∙ ap (λ (n : ℕ). found ++ (contention command k ∷ map (contention command) (newly n (drop n marks) (drop n now)))) (sym next)
      ∙ ap (λ (b : Bool). found ++ map (contention command) ((if b then k ∷ [] else []) ++ newly (suc k) (drop (suc k) marks) (drop (suc k) now))) (sym h)
      ∙ ap (λ (l : List ℕ). found ++ map (contention command) l) (sym (next_newly marks now k inside there))

  -- a net that is not
  pub passed : (get_or now k false && not (get_or marks k false)) ≡ false
      → take (k + 1) marks ++ either (drop (k + 1) marks) (drop (k + 1) now) ≡ take k marks ++ either (drop k marks) (drop k now)
  passed h =
      ap (λ (xs : List Bool). xs ++ either (drop (k + 1) marks) (drop (k + 1) now)) (take_more marks k false inside)
      ∙ append_assoc (take k marks) (get_or marks k false ∷ []) (either (drop (k + 1) marks) (drop (k + 1) now))
      ∙ ap (λ (n : ℕ). take k marks ++ (get_or marks k false ∷ either (drop n marks) (drop n now))) (sym next)
      ∙ ap (λ (b : Bool). take k marks ++ (b ∷ either (drop (suc k) marks) (drop (suc k) now))) (sym (one (get_or now k false) (get_or marks k false) h))
      ∙ ap (λ (l : List Bool). take k marks ++ l) (sym (next_either marks now k inside there))

  pub passed_found : (command : ℕ) (found : List Contention) → (get_or now k false && not (get_or marks k false)) ≡ false
      → found ++ map (contention command) (newly (k + 1) (drop (k + 1) marks) (drop (k + 1) now))
      ≡ found ++ map (contention command) (newly k (drop k marks) (drop k now))
  passed_found command found h =
      ap (λ (n : ℕ). found ++ map (contention command) (newly n (drop n marks) (drop n now))) (sym next)
      ∙ ap (λ (b : Bool). found ++ map (contention command) ((if b then k ∷ [] else []) ++ newly (suc k) (drop (suc k) marks) (drop (suc k) now))) (sym h)
      ∙ ap (λ (l : List ℕ). found ++ map (contention command) l) (sym (next_newly marks now k inside there))

-- a net's mark among those of all nets
pub at_net : {X : Type 0} (f : X → Bool) (xs : List X) (k : ℕ) (b : Bool) → k < length xs → option_map f (slice_get xs k) ≡ Some b → get_or (map f xs) k false ≡ b
at_net f [] k b inside is = absurd (omega (arith, inside))
at_net f (x ∷ xs) zero b inside is = same_Some (f x) b is
at_net f (x ∷ xs) (suc k) b inside is = at_net f xs k b (omega (arith, inside)) is

pub either_long : (before now : List Bool) → length (either before now) ≡ length before
either_long [] now = refl
either_long (b ∷ before) [] = refl
either_long (b ∷ before) (n ∷ now) = ap suc (either_long before now)
