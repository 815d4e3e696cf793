-- What it means that no key of a table is at fault.
use Rattle.std.proofs.Common.{◌≡◌, ℕ, Bor, Bool, true, false, cond, List, [], ◌∷◌, ◌++◌, fold, codes, Option, Some, None, nat_cmp, refl, ap, sym, ◌∙◌}
use Rattle.std.specs.Ordering.{is_eq, is_lt, match_ordering}
use Rattle.std.specs.declared.cmp.Ordering.{Ordering}
use Rattle.std.specs.declared.cmp.Ordering.TheVariants.{Less, Equal, Greater}
use Rattle.std.specs.Str.{bytes_eq}
use Rattle.std.specs.Cmp.Lexicographic.{slice_cmp}
use Rattle.std.proofs.lemmas.Bool.{false≢true}
use Rattle.std.proofs.lemmas.Map.Lookups.{exact_bytes}
use Rattle.std.proofs.lemmas.Map.Text.{is_eq-slice_cmp}
use Rattle.std.proofs.lemmas.Slice.Eq.{bytes_eq-Decides}
use Rattle.toml.specs.Data.{Data, Members, no_members, member, get_member}
use Rattle.std.proofs.lemmas.List.{map-append}
use Rattle.board_tables.specs.WordView.{texts_of}
use Rattle.board_tables.specs.declared.keys.Known.{Known}
use Rattle.board_tables.specs.Keys.{JudgedByOtherKeys, Key, device_keys, keys_but_follow, unfit_key, earlier, earliest, misfits, missing, needed, fits_one}

both : (b : Bool) (k l : List ℕ) (ks : List (List ℕ)) → (fold earlier (Some l) ks ≡ None → ⊥) → (fold earlier (Some k) ks ≡ None → ⊥) → fold earlier (cond b (Some l) (Some k)) ks ≡ None → ⊥
both true k l ks one other h = one h
both false k l ks one other h = other h

-- a key in hand stays, or gives way to another
kept : (k : List ℕ) (ks : List (List ℕ)) → fold earlier (Some k) ks ≡ None → ⊥
kept k [] h = cc
kept k (l ∷ ks) h = both (is_lt (slice_cmp nat_cmp l k)) k l ks (kept l ks) (kept k ks) h

none_left : (ks : List (List ℕ)) → earliest ks ≡ None → ks ≡ []
none_left [] h = refl
none_left (k ∷ ks) h = absurd (kept k ks h)

parts_empty : {A : Type 0} (xs ys : List A) → xs ++ ys ≡ [] → (xs ≡ []) × (ys ≡ [])
parts_empty [] ys h = (refl, h)
parts_empty (x ∷ xs) ys h = absurd cc

head_out : {A : Type 0} (b : Bool) (x : A) (xs : List A) → cond b xs (x ∷ xs) ≡ [] → (b ≡ true) × (xs ≡ [])
head_out true x xs h = (refl, h)
head_out false x xs h = absurd cc

pub head_in : {A : Type 0} (b : Bool) (x : A) (xs : List A) → cond b (x ∷ xs) xs ≡ [] → (b ≡ false) × (xs ≡ [])
head_in true x xs h = absurd cc
head_in false x xs h = (refl, h)

at : (fits : List ℕ → Data → Bool) (k l : List ℕ) (d e : Data) (rest : Option Data) (o : Ordering) → slice_cmp nat_cmp k l ≡ o
    → match_ordering o rest (Some e) rest ≡ Some d → (rest ≡ Some d → fits k d ≡ true) → fits l e ≡ true → fits k d ≡ true
at fits k l d e rest Less same g more here = more g
at fits k l d e rest Equal same g more here = let p : k ≡ l = exact_bytes k l same in let q : e ≡ d = cc in rw (p, ← q) here
at fits k l d e rest Greater same g more here = more g

-- each value that is given fits
each_fits : (fits : List ℕ → Data → Bool) (t : Members) → misfits fits t ≡ [] → (k : List ℕ) (d : Data) → get_member k t ≡ Some d → fits k d ≡ true
each_fits fits no_members h k d g = absurd cc
each_fits fits (member l e ms) h k d g =
    let parts = head_out (fits l e) l (misfits fits ms) h in
    at fits k l d e (get_member k ms) (slice_cmp nat_cmp k l) refl g (each_fits fits ms parts.1 k d) parts.0

-- no key is at fault: each value fits, and no needed key is missing
pub fitting : (keys : List Key) (t : Members) → unfit_key keys t ≡ None
    → ((k : List ℕ) (d : Data) → get_member k t ≡ Some d → fits_one keys k d ≡ true) × (missing (needed keys) t ≡ [])
fitting keys t h =
    let parts = parts_empty (misfits (fits_one keys) t) (missing (needed keys) t) (none_left _ h) in
    (each_fits (fits_one keys) t parts.0, parts.1)

-- the name of a table behind those before it
pub one_name_more : (before after : List (Bor (List ℕ))) (key : Bor (List ℕ)) (name : List ℕ) → after ≡ before ++ key ∷ [] → key.now ≡ name
    → texts_of after ≡ texts_of before ++ name ∷ []
one_name_more before after key name is same = rw (is, map-append, same) refl

-- ---- a table without the key `follow`

apart : (k l : List ℕ) → is_eq (slice_cmp nat_cmp k l) ≡ false → bytes_eq l k ≡ false
apart k l h = by (bytes_eq l k) refl
  where
    by : (b : Bool) → bytes_eq l k ≡ b → b ≡ false
    by true e =
        let same : k ≡ l = sym ((bytes_eq-Decides l k).0 e) in
        absurd (false≢true (sym h ∙ is_eq-slice_cmp k l ∙ (bytes_eq-Decides k l).1 same))
    by false e = refl

-- a key that a table does not have is none of its keys
no_member : (k l : List ℕ) (e : Data) (ms : Members) → get_member k (member l e ms) ≡ None → (bytes_eq l k ≡ false) × (get_member k ms ≡ None)
no_member k l e ms h = by (slice_cmp nat_cmp k l) refl h
  where
    by : (o : Ordering) → slice_cmp nat_cmp k l ≡ o → match_ordering o (get_member k ms) (Some e) (get_member k ms) ≡ None → (bytes_eq l k ≡ false) × (get_member k ms ≡ None)
    by Less is g = (apart k l (ap is_eq is), g)
    by Equal is g = absurd cc
    by Greater is g = (apart k l (ap is_eq is), g)

module _ (names : List (List ℕ)) (known : Option Known) where
  fits_alike : (k : List ℕ) (d : Data) → bytes_eq k (codes "follow") ≡ false → fits_one (device_keys names known) k d ≡ fits_one (keys_but_follow names known) k d
  fits_alike k d other = rw other refl

  misfits_alike : (t : Members) → get_member (codes "follow") t ≡ None → misfits (fits_one (device_keys names known)) t ≡ misfits (fits_one (keys_but_follow names known)) t
  misfits_alike no_members none = refl
  misfits_alike (member k d ms) none =
      let parts = no_member (codes "follow") k d ms none in
      λ i. cond (fits_alike k d parts.0 i) (misfits_alike ms parts.1 i) (k ∷ misfits_alike ms parts.1 i)

pub other_keys : JudgedByOtherKeys
other_keys names known t none = ap (λ ks. earliest (ks ++ missing (needed (device_keys names known)) t)) (misfits_alike names known t none)
