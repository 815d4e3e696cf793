-- Marking every bit of a capture at its pin notes of each pin the least wanted bit and whether one stays.
use Rattle.std.proofs.Common.{◌≡◌, ℕ, zero, suc, Bool, true, false, ◌&&◌, ◌||◌, List, [], ◌∷◌, length, drop, map, slice_get, Option, Some, None, if◌then◌else◌, refl, sym, ap, ap₂, ◌∙◌}
use Rattle.std.specs.Prelude.{is_none, is_some, option_map, slice_index_or, slice_set}
use Rattle.std.specs.List.{list_any}
use Rattle.scan_vectors.specs.Vector.{VectorBit}
use Rattle.board_faults.specs.declared.together.Driven.{Driven}
use Rattle.fault_events.specs.declared.notes.Note.{Note}
use Rattle.fault_events.specs.declared.notes.Spot.{Spot}
use Rattle.fault_events.specs.Marks.{mark_bit, mark_number, marked, nothing_noted, spot_at}

-- ---- numbers that are the same

abbrev pub same_number : ℕ → ℕ → Bool
same_number zero zero = true
same_number zero (suc n) = false
same_number (suc m) zero = false
same_number (suc m) (suc n) = same_number m n

abbrev pub is_number : ℕ → Option ℕ → Bool
is_number n None = false
is_number n (Some m) = same_number m n

-- ---- one note after another

-- what becomes of the note of pin n, from bit k on
abbrev run : List VectorBit → (k : ℕ) → List (Option ℕ) → (n : ℕ) → Note → Note
run v k [] n x = x
run v k (m ∷ ns) n x = run v (suc k) ns n (if is_number n m then mark_bit k (slice_get v k) x else x)

set-get : (f : Note → Note) (d : Note) (notes : List Note) (m n : ℕ)
    → slice_get (slice_set notes m (f (slice_index_or notes m d))) n ≡ option_map (λ x. if same_number m n then f x else x) (slice_get notes n)
set-get f d [] m n = refl
set-get f d (x ∷ xs) zero zero = refl
set-get f d (x ∷ xs) zero (suc n) = kept (slice_get xs n)
  where
    kept : (o : Option Note) → o ≡ option_map (λ y. y) o
    kept None = refl
    kept (Some y) = refl
set-get f d (x ∷ xs) (suc m) zero = refl
set-get f d (x ∷ xs) (suc m) (suc n) = set-get f d xs m n

one-get : (v : List VectorBit) (k : ℕ) (m : Option ℕ) (notes : List Note) (n : ℕ)
    → slice_get (mark_number v k m notes) n ≡ option_map (λ x. if is_number n m then mark_bit k (slice_get v k) x else x) (slice_get notes n)
one-get v k None notes n = kept (slice_get notes n)
  where
    kept : (o : Option Note) → o ≡ option_map (λ y. y) o
    kept None = refl
    kept (Some y) = refl
one-get v k (Some m) notes n = set-get (mark_bit k (slice_get v k)) nothing_noted notes m n

map-twice : {A B C : Type 0} (f : A → B) (g : B → C) (o : Option A) → option_map g (option_map f o) ≡ option_map (λ x. g (f x)) o
map-twice f g None = refl
map-twice f g (Some a) = refl

all-get : (v : List VectorBit) (k : ℕ) (ns : List (Option ℕ)) (notes : List Note) (n : ℕ)
    → slice_get (marked v k ns notes) n ≡ option_map (run v k ns n) (slice_get notes n)
all-get v k [] notes n = kept (slice_get notes n)
  where
    kept : (o : Option Note) → o ≡ option_map (λ y. y) o
    kept None = refl
    kept (Some y) = refl
all-get v k (m ∷ ns) notes n =
    all-get v (suc k) ns (mark_number v k m notes) n
    ∙ ap (option_map (run v (suc k) ns n)) (one-get v k m notes n)
    ∙ map-twice (λ x. if is_number n m then mark_bit k (slice_get v k) x else x) (run v (suc k) ns n) (slice_get notes n)

-- ---- what that comes to

-- the one that is there, or else the other
abbrev pub first_of_both : Option Spot → Option Spot → Option Spot
first_of_both None o = o
first_of_both (Some s) o = Some s

both-none : (o : Option Spot) → o ≡ first_of_both o None
both-none None = refl
both-none (Some s) = refl

or-none : (b : Bool) → b ≡ (b || false)
or-none true = refl
or-none false = refl

-- a bit that stays
stays-by : (k : ℕ) (m : Driven) (o : Option Spot) (t g : Bool) (c : Bool)
    → ◌≡◌ {A = Note}
    (let x : Note = record { made = m; first = o; stays = t } in
    let y : Note = if c then mark_bit k None x else x in
    record { made = y.made; first = first_of_both y.first None; stays = y.stays || g })
    (record { made = m; first = first_of_both o None; stays = t || (c || g) })
stays-by k m o true g true = refl
stays-by k m o false g true = refl
stays-by k m o t g false = refl

-- one that the vector pushes out
out-by : (k : ℕ) (b : VectorBit) (m : Driven) (t g : Bool) (r : Option Spot) (w c : Bool) (o : Option Spot)
    → ◌≡◌ {A = Note}
    (let x : Note = record { made = m; first = o; stays = t } in
    let y : Note = if c then (if w && is_none o then record x { first = Some (spot_at k b) } else x) else x in
    record { made = y.made; first = first_of_both y.first r; stays = y.stays || g })
    (record { made = m; first = first_of_both o (if w && c then Some (spot_at k b) else r); stays = t || g })
out-by k b m t g r true false o = refl
out-by k b m t g r false false o = refl
out-by k b m t g r false true o = refl
out-by k b m t g r true true None = refl
out-by k b m t g r true true (Some q) = refl

drop-none : (v : List VectorBit) (k : ℕ) → drop k v ≡ [] → (slice_get v k ≡ None) × (drop (suc k) v ≡ [])
drop-none [] k e = (refl, refl)
drop-none (b ∷ v) zero e = absurd (cc)
drop-none (b ∷ v) (suc k) e = drop-none v k e

drop-some : (v : List VectorBit) (k : ℕ) (b : VectorBit) (vs : List VectorBit) → drop k v ≡ b ∷ vs → (slice_get v k ≡ Some b) × (drop (suc k) v ≡ vs)
drop-some [] zero b vs e = absurd (cc)
drop-some [] (suc k) b vs e = absurd (cc)
drop-some (c ∷ v) zero b vs e =
    let head : c ≡ b = cc in
    let tail : v ≡ vs = cc in
    (ap Some head, tail)
drop-some (c ∷ v) (suc k) b vs e = drop-some v k b vs e

module _ {S : Type 0} (is : S → Bool) where
  -- the least wanted bit of these, from bit k on
  abbrev pub least : (k : ℕ) → List VectorBit → List S → Option Spot
  least k (b ∷ vs) (s ∷ ss) = if is_some b.wanted && is s then Some (spot_at k b) else least (suc k) vs ss
  least k _ _ = None

  abbrev pub comes_to : (k : ℕ) → List VectorBit → List S → Note → Note
  comes_to k vs ss x = record { made = x.made; first = first_of_both x.first (least k vs ss); stays = x.stays || list_any is (drop (length vs) ss) }

  nothing-left : (k : ℕ) (vs : List VectorBit) (x : Note) → x ≡ comes_to k vs [] x
  nothing-left k [] x = λ i. record { made = x.made; first = both-none x.first i; stays = or-none x.stays i }
  nothing-left k (b ∷ vs) x = λ i. record { made = x.made; first = both-none x.first i; stays = or-none x.stays i }

  pub runs_to : (number : S → Option ℕ) (n : ℕ) → ((s : S) → is s ≡ is_number n (number s)) → (v : List VectorBit) (ss : List S) (k : ℕ) (vs : List VectorBit) → drop k v ≡ vs → (x : Note)
      → run v k (map number ss) n x ≡ comes_to k vs ss x
  runs_to number n same v [] k vs e x = nothing-left k vs x
  runs_to number n same v (s ∷ ss) k [] e x =
      let at = drop-none v k e in
      ap₂ (λ (c : Bool) (o : Option VectorBit). run v (suc k) (map number ss) n (if c then mark_bit k o x else x)) (sym (same s)) at.0
      ∙ runs_to number n same v ss (suc k) [] at.1 (if is s then mark_bit k None x else x)
      ∙ stays-by k x.made x.first x.stays (list_any is ss) (is s)
  runs_to number n same v (s ∷ ss) k (b ∷ vs) e x =
      let at = drop-some v k b vs e in
      ap₂ (λ (c : Bool) (o : Option VectorBit). run v (suc k) (map number ss) n (if c then mark_bit k o x else x)) (sym (same s)) at.0
      ∙ runs_to number n same v ss (suc k) vs at.1 (if is s then mark_bit k (Some b) x else x)
      ∙ out-by k b x.made x.stays (list_any is (drop (length vs) ss)) (least (suc k) vs ss) (is_some b.wanted) (is s) x.first

-- ---- all pins

list-same : {X : Type 0} (xs ys : List X) → ((n : ℕ) → slice_get xs n ≡ slice_get ys n) → xs ≡ ys
list-same [] [] e = refl
list-same [] (y ∷ ys) e = let h = e 0 in absurd (cc)
list-same (x ∷ xs) [] e = let h = e 0 in absurd (cc)
list-same {X} (x ∷ xs) (y ∷ ys) e =
    let h = e 0 in
    let head : x ≡ y = cc in
    ap₂ (λ (z : X) (l : List X). z ∷ l) head (list-same xs ys (λ n. e (suc n)))

get-map : {X Y : Type 0} (f : X → Y) (xs : List X) (n : ℕ) → slice_get (map f xs) n ≡ option_map f (slice_get xs n)
get-map f [] n = refl
get-map f (x ∷ xs) zero = refl
get-map f (x ∷ xs) (suc n) = get-map f xs n

-- Of pins whose numbers are those of the bits that are taken from them: all notes behind the marking.
pub marked_pins : {P S : Type 0} (number : S → Option ℕ) (is : P → S → Bool) (pins : List P) (start : P → Note)
    → ((n : ℕ) (p : P) → slice_get pins n ≡ Some p → (s : S) → is p s ≡ is_number n (number s))
    → (v : List VectorBit) (ss : List S)
    → marked v 0 (map number ss) (map start pins) ≡ map (λ p. comes_to (is p) 0 v ss (start p)) pins
marked_pins {P} number is pins start same v ss =
    list-same (marked v 0 (map number ss) (map start pins)) (map (λ p. comes_to (is p) 0 v ss (start p)) pins)
    (λ n.
    all-get v 0 (map number ss) (map start pins) n
    ∙ ap (option_map (run v 0 (map number ss) n)) (get-map start pins n)
    ∙ map-twice start (run v 0 (map number ss) n) (slice_get pins n)
    ∙ by n (slice_get pins n) refl
    ∙ sym (get-map (λ p. comes_to (is p) 0 v ss (start p)) pins n))
  where
    by : (n : ℕ) (o : Option P) → slice_get pins n ≡ o
        → option_map (λ p. run v 0 (map number ss) n (start p)) o ≡ option_map (λ p. comes_to (is p) 0 v ss (start p)) o
    by n None e = refl
    by n (Some p) e = ap Some (runs_to (is p) number n (same n p e) v ss 0 v refl (start p))
