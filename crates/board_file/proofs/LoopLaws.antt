-- What is told of a board, from what is told of its wiring and of its strings; and targets at their places.
use Rattle.std.proofs.Common.{◌≡◌, ◌<◌, ◌≤◌, ℕ, zero, suc, ◌+◌, List, [], ◌∷◌, ◌++◌, codes, length, drop, drop-cons, get_or, map, slice_get, string_bytes, Option, Some, None, option_map, Result, Ok, Err, refl, ap, sym, subst, ◌∙◌, arith}
use Rattle.std.specs.List.{flat_map}
use Rattle.std.proofs.lemmas.List.{drop_all}
use Rattle.std.proofs.lemmas.Option.{none-some, same_Some, slice_get-get_or}
use Rattle.toml.specs.Data.{Data, string, integer, float, boolean, datetime, array, table, Items, item, Members, as_table}
use Rattle.toml.specs.View.{items_view, view}
use Rattle.toml.specs.declared.value.Value.{Value}
use Rattle.board_tables.specs.Fields.{name_at, tables_in, texts_at}
use Rattle.board_tables.specs.FollowTexts.{target_text}
use Rattle.board_loops.specs.Loops.{IsFirstOnLoop}
use Rattle.board_tables.specs.declared.fault.BoardFault.{BoardFault}
use Rattle.board_tables.specs.declared.fault.BoardFault.TheVariants as fault
use Rattle.board_plan.specs.Planned.{Wiring}
use Rattle.board_plan.specs.declared.plan.Plan.{Plan}
use Rattle.board_loops.specs.Depending.{dependencies}
use Rattle.board_file.specs.Wiring.{Fault, targets_of}
use Rattle.board_file.specs.View.{IsLoopOf, TellsBoard, TellsWiring}

module _ {F : Type 0} (refuses : List ℕ → F → Type 0) (said : Result Wiring Fault) (targets : List (List ℕ)) where
  pub no_memory_told : TellsBoard refuses (Err fault.NoMemory) said targets
  no_memory_told = by said
    where
      by : (r : Result Wiring Fault) → TellsBoard refuses (Err fault.NoMemory) r targets
      by (Ok w) = tt
      by (Err e) = tt

  -- a fault of the wiring is the board's
  pub wiring_told : (f : BoardFault F) → TellsWiring refuses (Err f) said → TellsBoard refuses (Err f) said targets
  wiring_told f h = by f said h
    where
      by : (f : BoardFault F) (r : Result Wiring Fault) → TellsWiring refuses (Err f) r → TellsBoard refuses (Err f) r targets
      by (fault.CoreLoop s) (Ok w) h = absurd h
      by (fault.CoreLoop s) (Err e) h = absurd h
      by fault.BadToml (Ok w) h = h
      by fault.BadToml (Err e) h = h
      by (fault.BadField k) (Ok w) h = h
      by (fault.BadField k) (Err e) h = h
      by (fault.UnknownFile s) (Ok w) h = h
      by (fault.UnknownFile s) (Err e) h = h
      by (fault.Bsdl f) (Ok w) h = h
      by (fault.Bsdl f) (Err e) h = h
      by (fault.UnknownPin s) (Ok w) h = h
      by (fault.UnknownPin s) (Err e) h = h
      by (fault.PinTwice s) (Ok w) h = h
      by (fault.PinTwice s) (Err e) h = h
      by fault.TooLarge (Ok w) h = h
      by fault.TooLarge (Err e) h = h
      by fault.NoMemory (Ok w) h = h
      by fault.NoMemory (Err e) h = h

  -- the first string on a loop
  pub loop_told : (f : BoardFault F) (w : Wiring) (place : ℕ) → said ≡ Ok w → IsFirstOnLoop (dependencies w) place → IsLoopOf place targets f → TellsBoard refuses (Err f) said targets
  loop_told (fault.CoreLoop s) w place is first named =
      subst (λ (r : Result Wiring Fault). TellsBoard refuses (Err (fault.CoreLoop s)) r targets) (sym is) (record { place = place; first = first; named = named })
  loop_told fault.NoMemory w place is first named = no_memory_told
  loop_told fault.BadToml w place is first named = absurd named
  loop_told (fault.BadField k) w place is first named = absurd named
  loop_told (fault.UnknownFile s) w place is first named = absurd named
  loop_told (fault.Bsdl f) w place is first named = absurd named
  loop_told (fault.UnknownPin s) w place is first named = absurd named
  loop_told (fault.PinTwice s) w place is first named = absurd named
  loop_told fault.TooLarge w place is first named = absurd named

-- ---- targets

-- what stands at a place among the first of two lists, and among the second
pub at_first : {A B : Type 0} (f : A → B) (xs : List A) (ys : List B) (k : ℕ) (x : A) → slice_get xs k ≡ Some x → slice_get (map f xs ++ ys) k ≡ Some (f x)
at_first f [] ys k x e = absurd (none-some x e)
at_first f (y ∷ xs) ys zero x e = ap (option_map f) e
at_first f (y ∷ xs) ys (suc k) x e = at_first f xs ys k x e

pub at_second : {A B : Type 0} (f : A → B) (xs : List A) (ys : List B) (place left : ℕ) → place ≡ length xs + left → slice_get (map f xs ++ ys) place ≡ slice_get ys left
at_second f [] ys place left is = let same : place ≡ left = omega (arith, is) in ap (slice_get ys) same
at_second f (x ∷ xs) ys place left is =
    let next : place ≡ suc (length xs + left) = omega (arith, is) in
    ap (slice_get (f x ∷ (map f xs ++ ys))) next ∙ at_second f xs ys (length xs + left) left refl

-- a table at a place among values, and a value there that is none

with_table : (d : Data) (ds : Items) (t : Members) → as_table d ≡ Some t → tables_in (item d ds) ≡ t ∷ tables_in ds
with_table (table ms) ds t is = ap (λ (m : Members). m ∷ tables_in ds) (same_Some ms t is)
with_table (string x) ds t is = absurd (none-some t is)
with_table (integer x) ds t is = absurd (none-some t is)
with_table (float x) ds t is = absurd (none-some t is)
with_table (boolean x) ds t is = absurd (none-some t is)
with_table (datetime x) ds t is = absurd (none-some t is)
with_table (array x) ds t is = absurd (none-some t is)

with_none : (d : Data) (ds : Items) → as_table d ≡ None → tables_in (item d ds) ≡ tables_in ds
with_none (table ms) ds is = absurd (none-some ms (sym is))
with_none (string x) ds is = refl
with_none (integer x) ds is = refl
with_none (float x) ds is = refl
with_none (boolean x) ds is = refl
with_none (datetime x) ds is = refl
with_none (array x) ds is = refl

-- the targets of the devices from a place on
abbrev pub targets_from : List Value → ℕ → List (List ℕ)
targets_from vs i = flat_map targets_of (tables_in (items_view (drop i vs)))

module _ (vs : List Value) (i : ℕ) (v : Value) (inside : i < length vs) (here : v ≡ get_or vs i v) where
  at_place : targets_from vs i ≡ flat_map targets_of (tables_in (item (view v) (items_view (drop (i + 1) vs))))
  at_place =
      let next : suc i ≡ i + 1 = omega arith in
      ap (λ (l : List Value). flat_map targets_of (tables_in (items_view l))) (drop-cons vs i v inside)
      ∙ (λ j. flat_map targets_of (tables_in (item (view (sym here j)) (items_view (drop (next j) vs)))))

  there : (t : Members) → as_table (view v) ≡ Some t → targets_from vs i ≡ targets_of t ++ targets_from vs (i + 1)
  there t is = at_place ∙ ap (flat_map targets_of) (with_table (view v) (items_view (drop (i + 1) vs)) t is)

  -- a value that is no table leaves the place
  pub not_there : (left : ℕ) → as_table (view v) ≡ None → slice_get (targets_from vs (i + 1)) left ≡ slice_get (targets_from vs i) left
  not_there left is = ap (λ (l : List (List ℕ)). slice_get l left) (sym (at_place ∙ ap (flat_map targets_of) (with_none (view v) (items_view (drop (i + 1) vs)) is)))

  -- a table with so few strings leaves what is left
  pub past_it : (t : Members) (left rest : ℕ) → as_table (view v) ≡ Some t → left ≡ length (texts_at (codes "follow") t) + rest
      → slice_get (targets_from vs (i + 1)) rest ≡ slice_get (targets_from vs i) left
  past_it t left rest is count =
      sym (ap (λ (l : List (List ℕ)). slice_get l left) (there t is)
      ∙ at_second (λ text. name_at t ++ 46 ∷ target_text text) (texts_at (codes "follow") t) (targets_from vs (i + 1)) left rest count)

  -- the target of a string of it
  pub within_it : (t : Members) (left : ℕ) (text : List ℕ) → as_table (view v) ≡ Some t → slice_get (texts_at (codes "follow") t) left ≡ Some text
      → slice_get (targets_from vs i) left ≡ Some (name_at t ++ 46 ∷ target_text text)
  within_it t left text is at =
      ap (λ (l : List (List ℕ)). slice_get l left) (there t is)
      ∙ at_first (λ text. name_at t ++ 46 ∷ target_text text) (texts_at (codes "follow") t) (targets_from vs (i + 1)) left text at

-- behind the last device nothing is left
pub none_past : (vs : List Value) (i left place : ℕ) → length vs ≤ i → slice_get (targets_from vs i) left ≡ slice_get (flat_map targets_of (tables_in (items_view vs))) place
    → place < length (flat_map targets_of (tables_in (items_view vs))) → ⊥
none_past vs i left place past same inside =
    let all = flat_map targets_of (tables_in (items_view vs)) in
    let gone : slice_get (targets_from vs i) left ≡ None = ap (λ (l : List Value). slice_get (flat_map targets_of (tables_in (items_view l))) left) (drop_all i vs past) in
    none-some (get_or all place []) (sym gone ∙ same ∙ slice_get-get_or all place [] inside)
