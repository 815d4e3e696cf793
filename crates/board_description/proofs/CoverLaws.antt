-- The first opcode that takes another, by those that are the same and those with an X.
use Rattle.std.proofs.Common.{◌≡◌, ℕ, suc, ◌+◌, ◌<◌, ◌≤◌, Bool, Bor, true, false, ◌&&◌, ◌||◌, cond, List, [], ◌∷◌, ◌++◌, codes, length, get_or, take, map, slice_get, Option, Some, None, is_none, refl, sym, ap, ◌∙◌, arith, append_assoc}
use Rattle.std.specs.Prelude.{flat_map, option_and_then, unwrap_or, if◌then◌else◌}
use Rattle.std.specs.List.{list_all, list_any, position, position_from}
use Rattle.std.proofs.lemmas.Grind.{flat_map-append}
use Rattle.std.proofs.lemmas.Iterator.Adapters.{position_from-zero}
use Rattle.std.specs.Option.{option_cmp}
use Rattle.std.specs.Ordering.{bool_cmp, is_eq}
use Rattle.std.specs.Cmp.Lexicographic.{slice_cmp}
use Rattle.std.specs.declared.cmp.Ordering.{Ordering}
use Rattle.std.proofs.lemmas.List.{append-nil, length-map, map-append, take_more}
use Rattle.bsdl_device.specs.Device.{Name, Opcode, Pattern}
use Rattle.board_tables.specs.WordView.{texts_of}
use Rattle.board_description.specs.Covered.{is_one, opcode_names, opcode_patterns, takes, taking}
use Rattle.board_description.specs.Blocks.{joined, x_taking}
use Rattle.board_description.specs.Opcodes.{Holds, first_of, with_x}
use Rattle.board_description.specs.declared.opcodes.Opcodes.{Opcodes}
use Rattle.board_description.proofs.BlockLaws.{from_first}

-- ---- an opcode more

moved : (n : ℕ) (ps : List Pattern) (p : Pattern) → with_x (suc n + length ps) (p ∷ []) ≡ with_x (n + suc (length ps)) (p ∷ [])
moved n ps p = ap (λ k. with_x k (p ∷ [])) (omega arith)

with_x_cons : (b : Bool) (n : ℕ) (q p : Pattern) (ps : List Pattern) → list_any is_none q ≡ b
    → with_x (suc n) (ps ++ p ∷ []) ≡ with_x (suc n) ps ++ with_x (suc n + length ps) (p ∷ [])
    → with_x n (q ∷ (ps ++ p ∷ [])) ≡ with_x n (q ∷ ps) ++ with_x (n + suc (length ps)) (p ∷ [])
with_x_cons true n q p ps e more = rw e (ap (λ l. (n, q) ∷ l) (more ∙ ap (λ l. with_x (suc n) ps ++ l) (moved n ps p)))
with_x_cons false n q p ps e more = rw e (more ∙ ap (λ l. with_x (suc n) ps ++ l) (moved n ps p))

pub with_x_more : (n : ℕ) (ps : List Pattern) (p : Pattern) → with_x n (ps ++ p ∷ []) ≡ with_x n ps ++ with_x (n + length ps) (p ∷ [])
with_x_more n [] p = ap (λ k. with_x k (p ∷ [])) (omega arith)
with_x_more n (q ∷ ps) p = with_x_cons (list_any is_none q) n q p ps refl (with_x_more (suc n) ps p)

-- ---- what takes an opcode

takes_itself : (p : Pattern) → takes p p ≡ true
takes_itself [] = refl
takes_itself (None ∷ p) = takes_itself p
takes_itself (Some true ∷ p) = takes_itself p
takes_itself (Some false ∷ p) = takes_itself p

-- one without an X takes itself alone
exact_takes : (q p : Pattern) → list_any is_none q ≡ false → takes q p ≡ true → p ≡ q
exact_takes [] [] none h = refl
exact_takes [] (b ∷ p) none h = absurd cc
exact_takes (a ∷ q) [] none h = absurd cc
exact_takes (None ∷ q) (b ∷ p) none h = absurd cc
exact_takes (Some a ∷ q) (None ∷ p) none h = absurd cc
exact_takes (Some true ∷ q) (Some true ∷ p) none h = ap (λ (l : Pattern). Some true ∷ l) (exact_takes q p none h)
exact_takes (Some true ∷ q) (Some false ∷ p) none h = absurd cc
exact_takes (Some false ∷ q) (Some true ∷ p) none h = absurd cc
exact_takes (Some false ∷ q) (Some false ∷ p) none h = ap (λ (l : Pattern). Some false ∷ l) (exact_takes q p none h)

-- a test that is passed by an opcode itself alone
abbrev pub IsSame : (Pattern → Bool) → Pattern → Type 0
IsSame same p = (q : Pattern) → ((same q ≡ true → p ≡ q) × (p ≡ q → same q ≡ true))

by_tests : (s x t : Bool) → (s ≡ true → t ≡ true) → (x ≡ false → t ≡ true → s ≡ true) → t ≡ s || (x && t)
by_tests true x true f g = refl
by_tests true x false f g = f refl
by_tests false true true f g = refl
by_tests false true false f g = refl
by_tests false false true f g = sym (g refl refl)
by_tests false false false f g = refl

ties : (same : Pattern → Bool) (p q : Pattern) → IsSame same p → takes q p ≡ same q || (list_any is_none q && takes q p)
ties same p q is =
    by_tests (same q) (list_any is_none q) (takes q p)
    (λ h. ap (λ r. takes q r) ((is q).0 h) ∙ takes_itself q)
    (λ none h. (is q).1 (exact_takes q p none h))

-- ---- the first that does

-- with the first opcode, where it has an X, or without it
x_step : (n : ℕ) (q : Pattern) (qs : List Pattern) (p : Pattern) (x t : Bool) → list_any is_none q ≡ x → takes q p ≡ t
    → x_taking (with_x n (q ∷ qs)) p ≡ (if x && t then Some n else x_taking (with_x (suc n) qs) p)
x_step n q qs p true true e h = rw e (from_first (n, q) (with_x (suc n) qs) p true h)
x_step n q qs p true false e h = rw e (from_first (n, q) (with_x (suc n) qs) p false h)
x_step n q qs p false t e h = rw e refl

abbrev IsLate : ℕ → Option ℕ → Type 0
IsLate n o = (k : ℕ) → o ≡ Some k → n ≤ k

late_step : (n : ℕ) (b : Bool) (o : Option ℕ) → IsLate (suc n) o → IsLate n (if b then Some n else o)
late_step n true o late k is = let same : n ≡ k = cc in omega (arith, same)
late_step n false o late k is = omega (arith, late k is)

x_late : (n : ℕ) (qs : List Pattern) (p : Pattern) → IsLate n (x_taking (with_x n qs) p)
x_late n [] p k is = absurd cc
x_late n (q ∷ qs) p k is =
    late_step n (list_any is_none q && takes q p) (x_taking (with_x (suc n) qs) p) (x_late (suc n) qs p) k
    (sym (x_step n q qs p (list_any is_none q) (takes q p) refl refl) ∙ is)

late_from : (b : Bool) (n : ℕ) (o : Option ℕ) → IsLate (n + 1) o → (k : ℕ) → cond b (Some n) o ≡ Some k → n ≤ k
late_from true n o late k e = let it : n ≡ k = cc in omega (arith, it)
late_from false n o late k e = omega (arith, late k e)

same_late : (same : Pattern → Bool) (n : ℕ) (qs : List Pattern) → IsLate n (position_from same n qs)
same_late same n [] k is = absurd cc
same_late same n (q ∷ qs) k is = late_from (same q) n (position_from same (n + 1) qs) (λ j e. same_late same (n + 1) qs j e) k is

first_same : (n : ℕ) (o : Option ℕ) → IsLate n o → Some n ≡ first_of (Some n) o
first_same n None late = refl
first_same n (Some k) late = ap Some (omega (arith, late k refl))

first_x : (n : ℕ) (o : Option ℕ) → IsLate n o → Some n ≡ first_of o (Some n)
first_x n None late = refl
first_x n (Some k) late = ap Some (omega (arith, late k refl))

step : (n : ℕ) (s x t : Bool) (rest same xs : Option ℕ) → t ≡ s || (x && t) → IsLate n same → IsLate n xs → rest ≡ first_of same xs
    → cond t (Some n) rest ≡ first_of (cond s (Some n) same) (if x && t then Some n else xs)
step n true x true rest same xs tie late later is = by x
  where
    by : (x : Bool) → Some n ≡ first_of (Some n) (if x && true then Some n else xs)
    by true = first_same n (Some n) (λ k e. let it : n ≡ k = cc in omega (arith, it))
    by false = first_same n xs later
step n true x false rest same xs tie late later is = absurd cc
step n false true true rest same xs tie late later is = first_x n same late
step n false false true rest same xs tie late later is = absurd cc
step n false true false rest same xs tie late later is = is
step n false false false rest same xs tie late later is = is

pub first_from : (same : Pattern → Bool) (p : Pattern) → IsSame same p → (n : ℕ) (qs : List Pattern)
    → position_from (λ q. takes q p) n qs ≡ first_of (position_from same n qs) (x_taking (with_x n qs) p)
first_from same p is n [] = refl
first_from same p is n (q ∷ qs) =
    let later : n + 1 ≡ suc n = omega arith in
    step n (same q) (list_any is_none q) (takes q p) (position_from (λ q. takes q p) (n + 1) qs) (position_from same (n + 1) qs)
    (x_taking (with_x (suc n) qs) p) (ties same p q is)
    (λ k e. omega (arith, same_late same (n + 1) qs k e)) (λ k e. omega (arith, x_late (suc n) qs p k e))
    (first_from same p is (n + 1) qs ∙ ap (λ m. first_of (position_from same (n + 1) qs) (x_taking (with_x m qs) p)) later)
    ∙ ap (first_of (cond (same q) (Some n) (position_from same (n + 1) qs))) (sym (x_step n q qs p (list_any is_none q) (takes q p) refl refl))

-- ---- what is kept

x_alone : (b : Bool) (n : ℕ) (p : Pattern) → list_any is_none p ≡ b → (if b then (n, p) ∷ [] else []) ≡ with_x n (p ∷ [])
x_alone true n p e = rw e refl
x_alone false n p e = rw e refl

-- one opcode more, whose place is that of the next
pub holds_next : (names : List Name) (patterns : List Pattern) (old new : Opcodes) (n : Bor (List ℕ)) (p : Bor Pattern) (b : Bool) (place : ℕ)
    → Holds names patterns old → place ≡ length old.places → b ≡ list_any is_none p.now
    → new.names.items ≡ old.names.items ++ n ∷ [] → new.places ≡ old.places ++ p ∷ []
    → joined new.with_x.items ≡ joined old.with_x.items ++ (if b then (place, p.now) ∷ [] else [])
    → Holds (names ++ n.now ∷ []) (patterns ++ p.now ∷ []) new
holds_next names patterns old new n p b place h place_is b_is names_are places_are x_are =
    let long : place ≡ length patterns =
    place_is ∙ sym (length-map old.places (λ (q : Bor Pattern). q.now)) ∙ ap length h.patterns_are in
    let zero_more : length patterns ≡ 0 + length patterns = omega arith in
    record {
      names_are = ap texts_of names_are ∙ map-append (λ (k : Bor (List ℕ)). k.now) old.names.items (n ∷ []) ∙ ap (λ l. l ++ n.now ∷ []) h.names_are;
      patterns_are = ap (map (λ (q : Bor Pattern). q.now)) places_are ∙ map-append (λ (q : Bor Pattern). q.now) old.places (p ∷ []) ∙ ap (λ l. l ++ p.now ∷ []) h.patterns_are;
      x_are = x_are ∙ ap (λ l. l ++ (if b then (place, p.now) ∷ [] else [])) h.x_are
          ∙ ap (λ k. with_x 0 patterns ++ (if b then (k, p.now) ∷ [] else [])) long
          ∙ ap (λ l. with_x 0 patterns ++ l) (x_alone b (length patterns) p.now (sym b_is)) ∙ ap (λ k. with_x 0 patterns ++ with_x k (p.now ∷ [])) zero_more ∙ sym (with_x_more 0 patterns p.now);
    }

no_more : (xs : List (ℕ × Pattern)) → xs ≡ xs ++ []
no_more xs = sym (append-nil xs)

pub x_stays : (old : Opcodes) (b : Bool) (place : ℕ) (p : Pattern) → b ≡ false → joined old.with_x.items ≡ joined old.with_x.items ++ (if b then (place, p) ∷ [] else [])
x_stays old true place p e = absurd cc
x_stays old false place p e = no_more _

pub x_added : (old now : List (ℕ × Pattern)) (place : ℕ) (p : Pattern) (b : Bool) → b ≡ true → now ≡ old ++ (place, p) ∷ [] → now ≡ old ++ (if b then (place, p) ∷ [] else [])
x_added old now place p true e is = is
x_added old now place p false e is = absurd cc

-- ---- the names

pub covered_name : (rows : List Opcode) (pattern : Pattern) (found : Option ℕ) → list_all is_one pattern ≡ false
    → found ≡ position (λ other. takes other pattern) (opcode_patterns rows) → option_and_then (slice_get (opcode_names rows)) found ≡ taking rows pattern
covered_name rows pattern found ones is =
    ap (option_and_then (slice_get (opcode_names rows))) is
    ∙ ap (λ (b : Bool). if b then Some (codes "BYPASS") else option_and_then (slice_get (opcode_names rows)) (position (λ other. takes other pattern) (opcode_patterns rows))) (sym ones)

pub moved_position : (same : Pattern → Bool) (n : ℕ) (xs : List (Bor Pattern)) → position_from (λ (q : Bor Pattern). same q.now) n xs ≡ position_from same n (map (λ (q : Bor Pattern). q.now) xs)
moved_position same n [] = refl
moved_position same n (x ∷ xs) = ap (λ o. cond (same x.now) (Some n) o) (moved_position same (n + 1) xs)

-- ---- an opcode of a row, and a row more

pub one_of_row : (names : List Name) (patterns : List Pattern) (row : Name) (items : List Pattern) (i : ℕ) (d : Pattern) (kept : Opcodes) → i < length items
    → Holds ((names ++ map (λ (p : Pattern). row) (take i items)) ++ row ∷ []) ((patterns ++ take i items) ++ get_or items i d ∷ []) kept
    → Holds (names ++ map (λ (p : Pattern). row) (take (i + 1) items)) (patterns ++ take (i + 1) items) kept
one_of_row names patterns row items i d kept h holds = record {
  names_are = holds.names_are ∙ append_assoc names (map (λ (p : Pattern). row) (take i items)) (row ∷ [])
      ∙ ap (λ l. names ++ l) (sym (ap (map (λ (p : Pattern). row)) (take_more items i d h) ∙ map-append (λ (p : Pattern). row) (take i items) (get_or items i d ∷ [])));
  patterns_are = holds.patterns_are ∙ append_assoc patterns (take i items) (get_or items i d ∷ []) ∙ ap (λ l. patterns ++ l) (sym (take_more items i d h));
  x_are = holds.x_are ∙ ap (with_x 0) (append_assoc patterns (take i items) (get_or items i d ∷ []) ∙ ap (λ l. patterns ++ l) (sym (take_more items i d h)));
}

flat_next : {X Y : Type 0} (f : X → List Y) (xs : List X) (i : ℕ) (d : X) → i < length xs → flat_map f (take i xs) ++ f (get_or xs i d) ≡ flat_map f (take (i + 1) xs)
flat_next f xs i d h =
    sym (ap (flat_map f) (take_more xs i d h) ∙ flat_map-append f (take i xs) (get_or xs i d ∷ []) ∙ ap (λ r. flat_map f (take i xs) ++ r) (append-nil (f (get_or xs i d))))

pub one_row : (rows : List Opcode) (i : ℕ) (row : Opcode) (kept : Opcodes) → i < length rows → row ≡ get_or rows i row
    → Holds (opcode_names (take i rows) ++ map (λ (p : Pattern). row.name) row.patterns) (opcode_patterns (take i rows) ++ row.patterns) kept
    → Holds (opcode_names (take (i + 1) rows)) (opcode_patterns (take (i + 1) rows)) kept
one_row rows i row kept h here holds =
    let names = λ (r : Opcode). map (λ (p : Pattern). r.name) r.patterns in
    let patterns = λ (r : Opcode). r.patterns in
    let patterns_next = ap (λ (r : Opcode). opcode_patterns (take i rows) ++ r.patterns) here ∙ flat_next patterns rows i row h in
    record {
      names_are = holds.names_are ∙ ap (λ (r : Opcode). opcode_names (take i rows) ++ names r) here ∙ flat_next names rows i row h;
      patterns_are = holds.patterns_are ∙ patterns_next;
      x_are = holds.x_are ∙ ap (with_x 0) patterns_next;
    }

-- ---- the name of what takes an opcode

module _ (rows : List Opcode) (pattern : Pattern) (name : Name) (kept : List (Bor Name)) (found : Option ℕ) (ones : list_all is_one pattern ≡ false)
    (found_is : found ≡ position (λ other. takes other pattern) (opcode_patterns rows)) (kept_are : texts_of kept ≡ opcode_names rows) where
  by_place : (o : Option ℕ) → found ≡ o → unwrap_or (taking rows pattern) name ≡ unwrap_or (option_and_then (slice_get (opcode_names rows)) o) name
  by_place o is = ap (λ t. unwrap_or t name) (sym (covered_name rows pattern found ones found_is) ∙ ap (option_and_then (slice_get (opcode_names rows))) is)

  pub named_there : (place : ℕ) → found ≡ Some place → unwrap_or (slice_get (texts_of kept) place) name ≡ unwrap_or (taking rows pattern) name
  named_there place some = ap (λ l. unwrap_or (slice_get l place) name) kept_are ∙ sym (by_place (Some place) some)

  pub not_taken : found ≡ None → name ≡ unwrap_or (taking rows pattern) name
  not_taken none = sym (by_place None none)

-- ---- the same opcode, by the order that finds it

abbrev pub order : Pattern → Pattern → Ordering
order p q = slice_cmp (option_cmp bool_cmp) p q

order_itself : (p : Pattern) → is_eq (order p p) ≡ true
order_itself [] = refl
order_itself (None ∷ p) = order_itself p
order_itself (Some true ∷ p) = order_itself p
order_itself (Some false ∷ p) = order_itself p

order_same : (p q : Pattern) → is_eq (order p q) ≡ true → p ≡ q
order_same [] [] h = refl
order_same [] (b ∷ q) h = absurd cc
order_same (a ∷ p) [] h = absurd cc
order_same (None ∷ p) (None ∷ q) h = ap (λ (l : Pattern). None ∷ l) (order_same p q h)
order_same (None ∷ p) (Some b ∷ q) h = absurd cc
order_same (Some a ∷ p) (None ∷ q) h = absurd cc
order_same (Some true ∷ p) (Some true ∷ q) h = ap (λ (l : Pattern). Some true ∷ l) (order_same p q h)
order_same (Some true ∷ p) (Some false ∷ q) h = absurd cc
order_same (Some false ∷ p) (Some true ∷ q) h = absurd cc
order_same (Some false ∷ p) (Some false ∷ q) h = ap (λ (l : Pattern). Some false ∷ l) (order_same p q h)

is_same : (p : Pattern) → IsSame (λ q. is_eq (order p q)) p
is_same p q = (order_same p q, λ e. ap (λ r. is_eq (order p r)) (sym e) ∙ order_itself p)

pub first_kept : (names : List Name) (patterns : List Pattern) (kept : Opcodes) (p : Pattern) → Holds names patterns kept
    → first_of (position (λ (y : Bor Pattern). is_eq (order p y.now)) kept.places) (x_taking (joined kept.with_x.items) p) ≡ position (λ other. takes other p) patterns
first_kept names patterns kept p h =
    ap (λ o. first_of o (x_taking (joined kept.with_x.items) p))
    (position_from-zero (λ (y : Bor Pattern). is_eq (order p y.now)) kept.places ∙ moved_position (λ q. is_eq (order p q)) 0 kept.places ∙ ap (position_from (λ q. is_eq (order p q)) 0) h.patterns_are)
    ∙ ap (λ xs. first_of (position_from (λ q. is_eq (order p q)) 0 patterns) (x_taking xs p)) h.x_are
    ∙ sym (first_from (λ q. is_eq (order p q)) p (is_same p) 0 patterns) ∙ sym (position_from-zero (λ other. takes other p) patterns)
