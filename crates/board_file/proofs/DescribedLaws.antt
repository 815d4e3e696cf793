-- What stands in the library is what the files say of the devices.
use Rattle.std.proofs.Common.{◌≡◌, ℕ, Bool, true, false, ◌||◌, cond, List, [], ◌∷◌, ◌++◌, map, fold, Option, Some, None, option_map, option_and_then, unwrap_or, slice_get, codes, refl, ap, sym, ◌∙◌}
use Rattle.std.proofs.lemmas.Bool.{false≢true}
use Rattle.std.specs.List.{position, list_any, find, filter_map, AllByRecursion}
use Rattle.std.specs.Str.{bytes_eq}
use Rattle.std.proofs.lemmas.Option.{slice_get-map}
use Rattle.std.proofs.lemmas.Slice.Eq.{bytes_eq-Decides}
use Rattle.toml.specs.Data.{Members}
use Rattle.bsdl_device.specs.Device.{Device}
use Rattle.board_tables.specs.Fields.{text_at}
use Rattle.board_tables.specs.FirstPlaces.{with_name}
use Rattle.board_parts.specs.Files.{File, described, device_at}
use Rattle.board_tables.specs.Files.{file_at}
use Rattle.board_file.specs.Wiring.{known_at, member_at}
use Rattle.board_parts.specs.LibraryView.{stands_at}
use Rattle.board_parts.specs.Parts.{known_in, member_in}
use Rattle.board_parts.proofs.FileLaws.{found_at}

-- ---- each name is among those that are distinct

abbrev pub Has : List (List ℕ) → List ℕ → Type 0
Has names name = list_any (bytes_eq name) names ≡ true

has_front : (name : List ℕ) (xs ys : List (List ℕ)) → Has xs name → Has (xs ++ ys) name
has_front name [] ys h = absurd (false≢true h)
has_front name (x ∷ xs) ys h = by (bytes_eq name x) h (has_front name xs ys)
  where
    by : (b : Bool) → b || list_any (bytes_eq name) xs ≡ true → (list_any (bytes_eq name) xs ≡ true → list_any (bytes_eq name) (xs ++ ys) ≡ true) → b || list_any (bytes_eq name) (xs ++ ys) ≡ true
    by true h f = refl
    by false h f = f h

itself : (name : List ℕ) → bytes_eq name name ≡ true
itself name = (bytes_eq-Decides name name).1 refl

has_last : (name : List ℕ) (xs : List (List ℕ)) → Has (xs ++ name ∷ []) name
has_last name [] = rw (itself name) refl
has_last name (x ∷ xs) = by (bytes_eq name x) (has_last name xs)
  where
    by : (b : Bool) → list_any (bytes_eq name) (xs ++ name ∷ []) ≡ true → b || list_any (bytes_eq name) (xs ++ name ∷ []) ≡ true
    by true h = refl
    by false h = h

has_with : (name : List ℕ) (names : List (List ℕ)) → Has (with_name names name) name
has_with name names = by (list_any (bytes_eq name) names) refl
  where
    by : (b : Bool) → list_any (bytes_eq name) names ≡ b → list_any (bytes_eq name) (cond b names (names ++ name ∷ [])) ≡ true
    by true h = h
    by false h = has_last name names

still_with : (name other : List ℕ) (names : List (List ℕ)) → Has names name → Has (with_name names other) name
still_with name other names h = by (list_any (bytes_eq other) names)
  where
    by : (b : Bool) → list_any (bytes_eq name) (cond b names (names ++ other ∷ [])) ≡ true
    by true = h
    by false = has_front name names (other ∷ []) h

still : (name : List ℕ) (names more : List (List ℕ)) → Has names name → Has (fold with_name names more) name
still name names [] h = h
still name names (x ∷ more) h = still name (with_name names x) more (still_with name x names h)

abbrev pub Named : List (List ℕ) → List Members → Type 0
Named names ts = AllByRecursion (λ t. Has names (file_at t)) ts

pub named_from : (names : List (List ℕ)) (ts : List Members) → Named (fold with_name names (map file_at ts)) ts
named_from names [] = tt
named_from names (t ∷ ts) =
    (still (file_at t) (with_name names (file_at t)) (map file_at ts) (has_with (file_at t) names), named_from (with_name names (file_at t)) ts)

-- ---- what is found by a name that is there

find_itself : (name : List ℕ) (names : List (List ℕ)) → Has names name → find (bytes_eq name) names ≡ Some name
find_itself name [] h = absurd (false≢true h)
find_itself name (x ∷ xs) h = by (bytes_eq name x) refl h (find_itself name xs)
  where
    by : (b : Bool) → bytes_eq name x ≡ b → b || list_any (bytes_eq name) xs ≡ true → (list_any (bytes_eq name) xs ≡ true → find (bytes_eq name) xs ≡ Some name) → cond b (Some x) (find (bytes_eq name) xs) ≡ Some name
    by true e h f = ap Some (sym ((bytes_eq-Decides name x).0 e))
    by false e h f = f h

mapped : {A B : Type 0} (f : A → B) (xs : List A) (o : Option ℕ) → option_and_then (slice_get (map f xs)) o ≡ option_map f (option_and_then (slice_get xs) o)
mapped f xs None = refl
mapped f xs (Some i) = slice_get-map f xs i

module _ (says : List ℕ → Option Device) (files : List File) (names : List (List ℕ)) where
  stands_by : (o : Option (List ℕ)) → Has names (unwrap_or o [])
      → option_and_then (λ d. d) (option_and_then (slice_get (map (described says files) names)) (option_and_then (λ name. position (bytes_eq name) names) o)) ≡ option_and_then (described says files) o
  stands_by None h = refl
  stands_by (Some name) h =
      ap (option_and_then (λ d. d)) (mapped (described says files) names (position (bytes_eq name) names)
      ∙ ap (option_map (described says files)) (sym (found_at (bytes_eq name) names) ∙ find_itself name names h))

  pub stands : (t : Members) → Has names (file_at t) → stands_at names (map (described says files) names) t ≡ device_at says files t
  stands t h = stands_by (text_at (codes "bsdl") t) h

  pub same_known : (ts : List Members) → Named names ts → map (known_in names (map (described says files) names)) ts ≡ map (known_at says files) ts
  same_known [] h = refl
  same_known (t ∷ ts) h = rw (stands t h.0, same_known ts h.1) refl

  pub same_devices : (ts : List Members) → Named names ts → filter_map (stands_at names (map (described says files) names)) ts ≡ filter_map (device_at says files) ts
  same_devices [] h = refl
  same_devices (t ∷ ts) h = rw (stands t h.0, same_devices ts h.1) refl

  pub same_members : (ts : List Members) → Named names ts → filter_map (member_in names (map (described says files) names)) ts ≡ filter_map (member_at says files) ts
  same_members [] h = refl
  same_members (t ∷ ts) h = rw (stands t h.0, same_members ts h.1) refl
