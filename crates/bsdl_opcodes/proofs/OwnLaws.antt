-- Rows that are left with own instructions; and which instructions are own.
use Rattle.std.proofs.Common.{◌≡◌, ◌≢◌, ◌<◌, ◌≤◌, ℕ, zero, suc, ◌+◌, Bool, true, false, cond, nat_eq, nat_lt, List, [], ◌∷◌, ◌++◌, length, map, take, drop, set, get_or, slice_get, Some, refl, sym, ap, ◌∙◌, arith, ◌⊎◌, inl, inr, ⊎_elim}
use Rattle.std.specs.Prelude.{◌&&◌, bytes_eq, filter, not}
use Rattle.std.proofs.Math.Path.{fun_ext}
use Rattle.std.proofs.lemmas.Bool.Decides.{nat_tests}
use Rattle.std.specs.List.{swap}
use Rattle.std.proofs.lemmas.Grind.{drop_more_same}
use Rattle.std.proofs.lemmas.List.{append-nil, drop-set-lt, get_or-drop, length-set, map-append, map_more, take-set-le, take_more_set}
use Rattle.std.proofs.lemmas.List.Edits.{swap_is}
use Rattle.std.proofs.lemmas.List.Elements.{filter-append}
use Rattle.std.proofs.lemmas.Option.{same_Some}
use Rattle.bsdl_device.specs.Device.{Name}
use Rattle.bsdl_text.specs.Words.{upper}
use Rattle.bsdl_values.specs.InstructionValues.{Instr, AccessRow, OpcodeRow}
use Rattle.bsdl_opcodes.specs.Own.{with_own, own_accesses, is_own, has_opcode, standard_names}
use Rattle.bsdl_text.specs.Words.{is_among}
use Rattle.bsdl_opcodes.specs.NameSets.{is_own_by, opcode_named, private_named, row_with, has_some}

with_own_is : (row : AccessRow) (is : List Instr) (rest : List AccessRow) → with_own row is rest ≡ cond (nat_lt 0 (length is)) (record row { instrs = is } ∷ rest) rest
with_own_is row [] rest = refl
with_own_is row (i ∷ is) rest =
    let some : nat_lt 0 (length (i ∷ is)) ≡ true = grind (arith, nat_tests) in
    rw some refl

-- the rows with own instructions are those that have some left
pub own_left : {X : Type 0} (own : Instr → Bool) (see : X → AccessRow) (xs : List X) → filter has_some (map (λ x. row_with own (see x)) xs) ≡ own_accesses own (map see xs)
own_left own see [] = refl
own_left own see (x ∷ xs) =
    let row = see x in
    ap (λ rest. cond (nat_lt 0 (length (filter own row.instrs))) (row_with own row ∷ rest) rest) (own_left own see xs)
    ∙ sym (with_own_is row (filter own row.instrs) (own_accesses own (map see xs)))

-- a list of which what is seen is filtered
pub filter_seen : {X Y : Type 0} (see : X → Y) (test : Y → Bool) (xs : List X) → map see (filter (λ x. test (see x)) xs) ≡ filter test (map see xs)
filter_seen see test [] = refl
filter_seen {X} {Y} see test (x ∷ xs) = by_test (test (see x)) (filter_seen see test xs)
  where
    by_test : (b : Bool) → map see (filter (λ x. test (see x)) xs) ≡ filter test (map see xs)
        → map see (cond b (x ∷ filter (λ x. test (see x)) xs) (filter (λ x. test (see x)) xs)) ≡ cond b (see x ∷ filter test (map see xs)) (filter test (map see xs))
    by_test true rest = ap (λ ys. see x ∷ ys) rest
    by_test false rest = rest

-- Of the first k of a list those that pass are moved to the front, in their order; the others behind k are as they were.
pub record Front {X Y : Type 0} (see : X → Y) (test : Y → Bool) (old now : List X) (kept k : ℕ) : Type 0 where
  pub long : length now ≡ length old
  pub few : kept ≤ k
  pub own : map see (take kept now) ≡ filter test (map see (take k old))
  pub rest : drop k now ≡ drop k old

module _ {X Y : Type 0} (see : X → Y) (test : Y → Bool) (old now : List X) (kept k : ℕ) (x : X) (f : Front see test old now kept k) (within : k < length now) (here : get_or now k x ≡ x) where
  same_there : get_or old k x ≡ x
  same_there =
      let at : k + 0 ≡ k = omega arith in
      ap (λ (j : ℕ). get_or old j x) (sym at) ∙ sym (get_or-drop k old 0 x) ∙ ap (λ (l : List X). get_or l 0 x) (sym f.rest) ∙ get_or-drop k now 0 x ∙ ap (λ (j : ℕ). get_or now j x) at ∙ here

  one_more : map see (take (k + 1) old) ≡ map see (take k old) ++ see x ∷ []
  one_more = map_more see old k x (omega (arith, within, f.long)) ∙ ap (λ (y : X). map see (take k old) ++ see y ∷ []) same_there

  tested : (b : Bool) → test (see x) ≡ b → filter test (map see (take (k + 1) old)) ≡ filter test (map see (take k old)) ++ cond b (see x ∷ []) []
  tested b is = ap (filter test) one_more ∙ filter-append test (map see (take k old)) (see x ∷ []) ∙ ap (λ (c : Bool). filter test (map see (take k old)) ++ cond c (see x ∷ []) []) is

  pub front_passed : test (see x) ≡ false → Front see test old now kept (k + 1)
  front_passed is = record {
    long = f.long;
    few = omega (arith, f.few);
    own = f.own ∙ sym (append-nil (filter test (map see (take k old)))) ∙ sym (tested false is);
    rest = drop_more_same now old k f.rest;
  }

  moved : take (kept + 1) (swap now kept k) ≡ take kept now ++ x ∷ []
  moved =
      let d = get_or now kept x in
      ap (take (kept + 1)) (sym (swap_is now kept k x (omega (arith, within, f.few)) within) ∙ ap (λ (y : X). set (set now kept y) k d) here)
      ∙ by (nat_split kept k)
    where
      nat_split : (j i : ℕ) → (j ≡ i) ⊎ (j ≢ i)
      nat_split zero zero = inl refl
      nat_split zero (suc i) = inr (λ e. absurd (omega (arith, e)))
      nat_split (suc j) zero = inr (λ e. absurd (omega (arith, e)))
      nat_split (suc j) (suc i) = ⊎_elim (λ e. inl (ap suc e)) (λ n. inr (λ e. n (omega (arith, e)))) (nat_split j i)

      below : kept < length now
      below = omega (arith, within, f.few)

      by : (kept ≡ k) ⊎ (kept ≢ k) → take (kept + 1) (set (set now kept x) k (get_or now kept x)) ≡ take kept now ++ x ∷ []
      by split = ⊎_elim
          (λ e.
          let same : get_or now kept x ≡ x = ap (λ (j : ℕ). get_or now j x) e ∙ here in
          ap (λ (y : X). take (kept + 1) (set (set now kept x) k y)) same
          ∙ ap (λ (j : ℕ). take (kept + 1) (set (set now kept x) j x)) (sym e)
          ∙ take_more_set (set now kept x) kept x (omega (arith, below, length-set now kept x))
          ∙ ap (λ (l : List X). l ++ x ∷ []) (take-set-le kept now kept x (omega arith)))
          (λ n. take-set-le (kept + 1) (set now kept x) k (get_or now kept x) (omega (arith, f.few, n)) ∙ take_more_set now kept x below)
          split

  left : drop (k + 1) (swap now kept k) ≡ drop (k + 1) now
  left =
      ap (drop (k + 1)) (sym (swap_is now kept k x (omega (arith, within, f.few)) within))
      ∙ drop-set-lt (k + 1) (set now kept (get_or now k x)) k (get_or now kept x) (omega arith)
      ∙ drop-set-lt (k + 1) now kept (get_or now k x) (omega (arith, f.few))

  pub front_kept : test (see x) ≡ true → Front see test old (swap now kept k) (kept + 1) (k + 1)
  front_kept is = record {
    long =
        ap length (sym (swap_is now kept k x (omega (arith, within, f.few)) within))
        ∙ length-set (set now kept (get_or now k x)) k (get_or now kept x) ∙ length-set now kept (get_or now k x) ∙ f.long;
    few = omega (arith, f.few);
    own =
        ap (map see) moved ∙ map-append see (take kept now) (x ∷ []) ∙ ap (λ (l : List Y). l ++ see x ∷ []) f.own
        ∙ sym (tested true is);
    rest = left ∙ drop_more_same now old k f.rest;
  }

-- what a list begins with
pub front_of : {X : Type 0} (xs ys : List X) (n : ℕ) → n ≡ length xs → take n (xs ++ ys) ≡ xs
front_of {X} xs ys n is = ap (λ (m : ℕ). take m (xs ++ ys)) is ∙ all xs
  where
    all : (zs : List X) → take (length zs) (zs ++ ys) ≡ zs
    all [] = refl
    all (z ∷ zs) = ap (λ (l : List X). z ∷ l) (all zs)

-- one more of a list is changed where it stands
pub changed_more : {X Y : Type 0} (see after : X → Y) (xs : List X) (i : ℕ) (x y : X) → slice_get xs i ≡ Some x → see y ≡ after x
    → map see (take (suc i) (set xs i y)) ++ map after (drop (suc i) (set xs i y)) ≡ map see (take i xs) ++ map after (drop i xs)
changed_more see after [] i x y at is = absurd (cc at)
changed_more {X} {Y} see after (z ∷ xs) zero x y at is = ap (λ (v : Y). v ∷ map after xs) (is ∙ ap after (same_Some _ _ (sym at)))
changed_more {X} {Y} see after (z ∷ xs) (suc i) x y at is = ap (λ (l : List Y). see z ∷ l) (changed_more see after xs i x y at is)

-- all of it
pub all_changed : {X Y : Type 0} (see after : X → Y) (xs : List X) (i : ℕ) → length xs ≤ i → map see (take i xs) ++ map after (drop i xs) ≡ map see xs
all_changed see after [] zero end = refl
all_changed see after [] (suc i) end = refl
all_changed see after (x ∷ xs) zero end = absurd (omega (arith, end))
all_changed {X} {Y} see after (x ∷ xs) (suc i) end = ap (λ (l : List Y). see x ∷ l) (all_changed see after xs i (omega (arith, end)))

same_either_way : (xs ys : List ℕ) → bytes_eq xs ys ≡ bytes_eq ys xs
same_either_way [] [] = refl
same_either_way [] (y ∷ ys) = refl
same_either_way (x ∷ xs) [] = refl
same_either_way (x ∷ xs) (y ∷ ys) =
    let here : nat_eq x y ≡ nat_eq y x = grind (arith, nat_tests) in
    rw (here, same_either_way xs ys) refl

among : (names : List Name) (q : List ℕ) → private_named names q ≡ is_among names q
among [] q = refl
among (n ∷ names) q = rw (same_either_way n q, among names q) refl

own_by : (with_opcode private opcode standard named : Bool) → with_opcode ≡ opcode → private ≡ named
    → with_opcode && (not standard && not private) ≡ opcode && (not standard && not named)
own_by with_opcode private opcode standard named e f =
    ap (λ (b : Bool). b && (not standard && not private)) e ∙ ap (λ (b : Bool). opcode && (not standard && not b)) f

pub own_test : (s p : List ℕ → Bool) (rows : List OpcodeRow) (names : List Name) → ((q : List ℕ) → s q ≡ opcode_named rows q) → ((q : List ℕ) → p q ≡ private_named names q)
    → (λ (i : Instr). is_own_by s p i.name.text) ≡ is_own rows names
own_test s p rows names opcodes privates =
    fun_ext (λ (i : Instr).
    own_by (s (upper i.name.text)) (p (upper i.name.text)) (has_opcode rows i.name.text) (is_among standard_names (upper i.name.text)) (is_among names (upper i.name.text))
    (opcodes (upper i.name.text)) (privates (upper i.name.text) ∙ among names (upper i.name.text)))
