-- Files found by their names.
use Rattle.std.proofs.Common.{◌≡◌, ℕ, nat_lt, Bool, true, false, cond, List, [], ◌∷◌, map, length, Option, Some, None, option_map, option_and_then, slice_get, refl, ap, sym, ◌∙◌, ◌≤◌, arith}
use Rattle.std.proofs.lemmas.Option.{slice_get_past}
use Rattle.std.proofs.lemmas.Bool.Decides.{nat_tests}
use Rattle.std.specs.List.{position, position_or_len, find}
use Rattle.std.specs.Str.{bytes_eq}
use Rattle.std.proofs.lemmas.List.Folds.{find_at}
use Rattle.board_tables.proofs.TextLaws.{position_map}
use denote.Ref.{Bor}
use Rattle.board_parts.specs.Files.{File, text_of}
use Rattle.board_parts.specs.LibraryView.{file_of, files_of}

abbrev pub Handed : Type 0
Handed = Bor (List ℕ) × Bor (List ℕ)

past : {A : Type 0} (xs : List A) (k : ℕ) → nat_lt k (length xs) ≡ false → slice_get xs k ≡ None
past xs k h = let beyond : length xs ≤ k = grind (arith, nat_tests) in slice_get_past xs k beyond

at_first : {A : Type 0} (xs : List A) (k : ℕ) (b : Bool) → nat_lt k (length xs) ≡ b → slice_get xs k ≡ option_and_then (λ i. slice_get xs i) (cond b (Some k) None)
at_first xs k true h = refl
at_first xs k false h = past xs k h

-- an item found by its place
pub found_at : {A : Type 0} (p : A → Bool) (xs : List A) → find p xs ≡ option_and_then (λ i. slice_get xs i) (position p xs)
found_at p xs = find_at p xs ∙ at_first xs (position_or_len p xs) (nat_lt (position_or_len p xs) (length xs)) refl

first_file : (name : List ℕ) (files : List Handed) → find (λ (f : File). bytes_eq name f.0) (files_of files) ≡ option_map file_of (find (λ f. bytes_eq name f.0.now) files)
first_file name [] = refl
first_file name (f ∷ files) = at (bytes_eq name f.0.now) (first_file name files)
  where
    at : (b : Bool) → find (λ (f : File). bytes_eq name f.0) (files_of files) ≡ option_map file_of (find (λ f. bytes_eq name f.0.now) files)
        → cond b (Some (file_of f)) (find (λ (f : File). bytes_eq name f.0) (files_of files)) ≡ option_map file_of (cond b (Some f) (find (λ f. bytes_eq name f.0.now) files))
    at true h = refl
    at false h = h

text_in : (o : Option Handed) → option_map (λ (f : File). f.1) (option_map file_of o) ≡ option_map (λ f. f.1.now) o
text_in None = refl
text_in (Some f) = refl

-- the text of a name, by its place among the names
pub place_text : (name : List ℕ) (files : List Handed) → text_of (files_of files) name
    ≡ option_map (λ f. f.1.now) (option_and_then (λ i. slice_get files i) (position (bytes_eq name) (map (λ f. f.0.now) files)))
place_text name files =
    ap (option_map (λ (f : File). f.1)) (first_file name files) ∙ text_in (find (λ f. bytes_eq name f.0.now) files)
    ∙ ap (option_map (λ f. f.1.now)) (found_at (λ f. bytes_eq name f.0.now) files ∙ ap (option_and_then (λ i. slice_get files i)) (sym (position_map (bytes_eq name) (λ f. f.0.now) files)))

-- ---- the same, by what a look-up gives

by_place : (name : List ℕ) (files : List Handed) (o : Option ℕ) → position (bytes_eq name) (map (λ f. f.0.now) files) ≡ o
    → text_of (files_of files) name ≡ option_map (λ f. f.1.now) (option_and_then (λ i. slice_get files i) o)
by_place name files o e = place_text name files ∙ ap (λ p. option_map (λ f. f.1.now) (option_and_then (λ i. slice_get files i) p)) e

pub no_file : (name : List ℕ) (files : List Handed) → position (bytes_eq name) (map (λ f. f.0.now) files) ≡ None → text_of (files_of files) name ≡ None
no_file name files e = by_place name files None e

pub a_file : (name : List ℕ) (files : List Handed) (i : ℕ) (o : Option Handed) → position (bytes_eq name) (map (λ f. f.0.now) files) ≡ Some i → slice_get files i ≡ o
    → text_of (files_of files) name ≡ option_map (λ f. f.1.now) o
a_file name files i o e at = by_place name files (Some i) e ∙ ap (option_map (λ f. f.1.now)) at
