-- Tests over borrowed texts as tests over the texts that they are, and places of texts.
use Rattle.std.proofs.Common.{◌≡◌, ℕ, ◌+◌, Bool, true, false, not, cond, List, [], ◌∷◌, ◌++◌, map, Some, is_some, refl, ap, sym, ◌∙◌, ◌||◌, nat_cmp}
use Rattle.std.specs.List.{position, position_from, prefix_len, list_any}
use Rattle.std.specs.BTreeMap.{is_at}
use Rattle.std.specs.Str.{bytes_eq}
use Rattle.std.specs.Cmp.Lexicographic.{slice_cmp}
use Rattle.std.proofs.lemmas.List.{map-append, length-map}
use Rattle.std.proofs.lemmas.Map.Text.{is_eq-slice_cmp}
use Rattle.std.proofs.lemmas.Iterator.Adapters.{position_from-zero}
use denote.Ref.{Bor}
use Rattle.board_tables.specs.WordView.{texts_of}

pub list_any_map : {A B : Type 0} (test : B → Bool) (f : A → B) (xs : List A) → list_any test (map f xs) ≡ list_any (λ x. test (f x)) xs
list_any_map test f [] = refl
list_any_map test f (x ∷ xs) = ap (λ b. test (f x) || b) (list_any_map test f xs)

-- the texts of a set of borrowed texts, after one more
pub map_with : {A B : Type 0} (f : A → B) (test : B → Bool) (b : Bool) (xs : List A) (x : A) → map f (cond b xs (xs ++ x ∷ [])) ≡ cond b (map f xs) (map f xs ++ f x ∷ [])
map_with f test true xs x = refl
map_with f test false xs x = map-append f xs (x ∷ [])

pub prefix_len_map : {A B : Type 0} (test : B → Bool) (f : A → B) (xs : List A) → prefix_len test (map f xs) ≡ prefix_len (λ x. test (f x)) xs
prefix_len_map test f [] = refl
prefix_len_map test f (x ∷ xs) = ap (λ k. cond (test (f x)) (1 + k) 0) (prefix_len_map test f xs)

pub position_map : {A B : Type 0} (test : B → Bool) (f : A → B) (xs : List A) → position test (map f xs) ≡ position (λ x. test (f x)) xs
position_map test f xs = rw (prefix_len_map (λ y. not (test y)) f xs, length-map xs f) refl

-- keys that compare alike are equal texts
pub text_place : (text : List ℕ) (ks : List (Bor (List ℕ))) → position (λ k. is_at (λ x. slice_cmp nat_cmp text x.now) k) ks ≡ position (bytes_eq text) (texts_of ks)
text_place text ks = ap (λ t. position t ks) (λ i k. is_eq-slice_cmp text k.now i) ∙ sym (position_map (bytes_eq text) (λ k. k.now) ks)

from_there : {A : Type 0} (p : A → Bool) (i : ℕ) (xs : List A) → is_some (position_from p i xs) ≡ list_any p xs
from_there p i [] = refl
from_there p i (x ∷ xs) = at (p x) (from_there p (i + 1) xs)
  where
    at : (b : Bool) → is_some (position_from p (i + 1) xs) ≡ list_any p xs → is_some (cond b (Some i) (position_from p (i + 1) xs)) ≡ b || list_any p xs
    at true h = refl
    at false h = h

-- there is a place exactly where an item passes
pub is_there : {A : Type 0} (p : A → Bool) (xs : List A) → is_some (position p xs) ≡ list_any p xs
is_there p xs = ap is_some (position_from-zero p xs) ∙ from_there p 0 xs
