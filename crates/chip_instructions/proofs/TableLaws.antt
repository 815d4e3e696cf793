-- The table of opcodes: what it finds, and an opcode or a row more.
use Rattle.std.proofs.Common.{◌≡◌, ℕ, zero, suc, ◌+◌, ◌<◌, ◌≤◌, Bool, true, false, not, ◌||◌, nat_lt, List, [], ◌∷◌, ◌++◌, length, drop, get_or, slice_get, Option, Some, None, is_none, refl, sym, ap, ◌∙◌, arith, if◌then◌else◌, cond, eqb}
use Rattle.std.specs.Prelude.{codes, option_map, option_and_then, unwrap_or}
use Rattle.std.specs.List.{find, list_all, list_any, position, position_or_len}
use Rattle.std.specs.Option.{option_or}
use Rattle.std.specs.Ordering.{is_eq}
use Rattle.std.proofs.lemmas.Bool.Decides.{nat_tests}
use Rattle.std.proofs.lemmas.List.Folds.{find_at, find-append, position_or_len_push}
use Rattle.std.proofs.lemmas.List.Sums.{prefix_len-le-length}
use Rattle.std.proofs.lemmas.List.{drop_all, length-append}
use Rattle.std.proofs.lemmas.Option.{slice_get_past}
use Rattle.bsdl_device.specs.Order.{bits_order}
use Rattle.bsdl_device.specs.OrderLaws.{order_same, order_itself}
use Rattle.bsdl_device.specs.Device.{Device, Opcode, Pattern}
use Rattle.bsdl_device.specs.Opcodes.{matches, names_it, x_as_0}
use Rattle.chip_instructions.specs.Instruction.{meaning, meaning_of}
use Rattle.chip_instructions.specs.OpcodeTable.{IsRising, first_of, row_with_x}
use Rattle.chip_instructions.specs.declared.opcode_table.WithX.{WithX}

-- ---- what is found

pub same_row : (a b : ℕ) → Some a ≡ Some b → a ≡ b
same_row a b e = cc

-- the first opcode's row, or one of the others'
from_first : (x : WithX) (xs : List WithX) (code : List Bool) (b : Bool) → matches x.pattern code ≡ b
    → row_with_x (x ∷ xs) code ≡ (if b then Some x.row else row_with_x xs code)
from_first x xs code true e = ap (λ (t : Bool). option_map (λ o. o.row) (cond t (Some x) (find (λ o. matches o.pattern code) xs))) e
from_first x xs code false e = ap (λ (t : Bool). option_map (λ o. o.row) (cond t (Some x) (find (λ o. matches o.pattern code) xs))) e

least_of : (x : WithX) (rest : Option ℕ) (b : Bool) (from : ℕ) → from ≤ x.row → ((r : ℕ) → rest ≡ Some r → x.row ≤ r)
    → (r : ℕ) → (if b then Some x.row else rest) ≡ Some r → from ≤ r
least_of x rest true from h later r is = omega (arith, h, same_row x.row r is)
least_of x rest false from h later r is = omega (arith, h, later r is)

pub least_row : (from : ℕ) (xs : List WithX) (to : ℕ) (code : List Bool) → IsRising from xs to → (r : ℕ) → row_with_x xs code ≡ Some r → from ≤ r
least_row from [] to code rising r is = absurd cc
least_row from (x ∷ xs) to code rising r is =
    least_of x (row_with_x xs code) (matches x.pattern code) from rising.0 (least_row x.row xs to code rising.1) r (sym (from_first x xs code (matches x.pattern code) refl) ∙ is)

pub rising_at : (from : ℕ) (xs : List WithX) (to : ℕ) (i : ℕ) (x : WithX) → IsRising from xs to → i < length xs → IsRising (get_or xs i x).row (drop i xs) to
rising_at from [] to i x rising h = absurd (omega (arith, h))
rising_at from (y ∷ xs) to zero x rising h = (omega arith, rising.1)
rising_at from (y ∷ xs) to (suc i) x rising h = rising_at y.row xs to i x rising.1 (omega (arith, h))

-- no opcode from here on is of an earlier row than the exact one
pub exact_first : (row : ℕ) (found : Option ℕ) → ((r : ℕ) → found ≡ Some r → row ≤ r) → Some row ≡ first_of (Some row) found
exact_first row None least = refl
exact_first row (Some r) least = ap Some (omega (arith, least r refl))

pub x_first : (exact : Option ℕ) (row : ℕ) → ((r : ℕ) → exact ≡ Some r → row ≤ r) → Some row ≡ first_of exact (Some row)
x_first None row least = refl
x_first (Some r) row least = ap Some (omega (arith, least r refl))

pub no_x : (exact : Option ℕ) → exact ≡ first_of exact None
no_x None = refl
no_x (Some r) = refl

-- ---- an opcode more

pub rising_more : (from : ℕ) (xs : List WithX) (to : ℕ) (x : WithX) → IsRising from xs to → x.row ≡ to → IsRising from (xs ++ x ∷ []) to
rising_more from [] to x rising is = (omega (arith, is, rising), omega (arith, is))
rising_more from (y ∷ xs) to x rising is = (rising.0, rising_more y.row xs to x rising.1 is)

pub rising_later : (from : ℕ) (xs : List WithX) (to later : ℕ) → IsRising from xs to → to ≤ later → IsRising from xs later
rising_later from [] to later rising h = omega (arith, rising, h)
rising_later from (y ∷ xs) to later rising h = (rising.0, rising_later y.row xs to later rising.1 h)

abbrev pub row_if : Bool → ℕ → Option ℕ
row_if named n = if named then Some n else None

rows_after : (found : Option WithX) (x : WithX) (t : Bool) → option_map (λ o. o.row) (option_or found (cond t (Some x) None)) ≡ option_or (option_map (λ o. o.row) found) (row_if t x.row)
rows_after None x true = refl
rows_after None x false = refl
rows_after (Some y) x t = refl

pub x_more : (xs : List WithX) (x : WithX) (code : List Bool) → row_with_x (xs ++ x ∷ []) code ≡ option_or (row_with_x xs code) (row_if (matches x.pattern code) x.row)
x_more xs x code =
    ap (option_map (λ o. o.row)) (find-append (λ (o : WithX). matches o.pattern code) xs (x ∷ []))
    ∙ rows_after (find (λ o. matches o.pattern code) xs) x (matches x.pattern code)

-- an opcode with an X behind all others
pub x_behind : (exact found : Option ℕ) (named : Bool) (n : ℕ) → ((k : ℕ) → first_of exact found ≡ Some k → k ≤ n)
    → first_of exact (option_or found (row_if named n)) ≡ option_or (first_of exact found) (row_if named n)
x_behind None None true n last = refl
x_behind None None false n last = refl
x_behind None (Some b) named n last = refl
x_behind (Some a) None true n last = ap Some (omega (arith, last a refl))
x_behind (Some a) None false n last = refl
x_behind (Some a) (Some b) named n last = refl

-- an opcode without an X behind all others
pub code_behind : (exact found : Option ℕ) (n : ℕ) → ((k : ℕ) → first_of exact found ≡ Some k → k ≤ n)
    → first_of (Some (unwrap_or exact n)) found ≡ option_or (first_of exact found) (Some n)
code_behind None None n last = refl
code_behind None (Some b) n last = ap Some (omega (arith, last b refl))
code_behind (Some a) None n last = refl
code_behind (Some a) (Some b) n last = refl

not_named : (o : Option ℕ) → o ≡ option_or o None
not_named None = refl
not_named (Some k) = refl

-- a code for a row more
pub code_more : (get : List Bool → Option ℕ) (key code : List Bool) (found : Option ℕ) (after : Option ℕ) (n : ℕ) (named : Bool) → named ≡ is_eq (bits_order key code)
    → after ≡ (if is_eq (bits_order key code) then Some (unwrap_or (get key) n) else get code) → ((k : ℕ) → first_of (get code) found ≡ Some k → k ≤ n)
    → first_of after found ≡ option_or (first_of (get code) found) (row_if named n)
code_more get key code found after n named named_is is last = by_test (is_eq (bits_order key code)) refl
  where
    by_test : (b : Bool) → is_eq (bits_order key code) ≡ b → first_of after found ≡ option_or (first_of (get code) found) (row_if named n)
    by_test true e =
        let same : key ≡ code = order_same key code e in
        ap (λ o. first_of o found) (is ∙ ap (λ (b : Bool). if b then Some (unwrap_or (get key) n) else get code) e ∙ ap (λ (q : List Bool). Some (unwrap_or (get q) n)) same)
        ∙ code_behind (get code) found n last
        ∙ ap (λ (b : Bool). option_or (first_of (get code) found) (row_if b n)) (sym (named_is ∙ e))
    by_test false e =
        ap (λ o. first_of o found) (is ∙ ap (λ (b : Bool). if b then Some (unwrap_or (get key) n) else get code) e)
        ∙ not_named (first_of (get code) found)
        ∙ ap (λ (b : Bool). option_or (first_of (get code) found) (row_if b n)) (sym (named_is ∙ e))

exact_match : (p : Pattern) (code : List Bool) → list_any is_none p ≡ false → matches p code ≡ true → x_as_0 p ≡ code
exact_match [] [] none h = refl
exact_match [] (b ∷ code) none h = absurd cc
exact_match (None ∷ p) code none h = absurd cc
exact_match (Some d ∷ p) [] none h = absurd cc
exact_match (Some true ∷ p) (true ∷ code) none h = ap (λ (l : List Bool). true ∷ l) (exact_match p code none h)
exact_match (Some true ∷ p) (false ∷ code) none h = absurd cc
exact_match (Some false ∷ p) (true ∷ code) none h = absurd cc
exact_match (Some false ∷ p) (false ∷ code) none h = ap (λ (l : List Bool). false ∷ l) (exact_match p code none h)

own_match : (p : Pattern) → list_any is_none p ≡ false → matches p (x_as_0 p) ≡ true
own_match [] none = refl
own_match (None ∷ p) none = absurd cc
own_match (Some true ∷ p) none = own_match p none
own_match (Some false ∷ p) none = own_match p none

two_tests : (a b : Bool) → (a ≡ true → b ≡ true) → (b ≡ true → a ≡ true) → a ≡ b
two_tests true b f g = sym (f refl)
two_tests false true f g = g refl
two_tests false false f g = refl

-- an opcode without an X matches one code
pub exact_is : (p : Pattern) (code : List Bool) → list_any is_none p ≡ false → matches p code ≡ is_eq (bits_order (x_as_0 p) code)
exact_is p code none =
    two_tests (matches p code) (is_eq (bits_order (x_as_0 p) code))
    (λ h. ap (λ (q : List Bool). is_eq (bits_order (x_as_0 p) q)) (sym (exact_match p code none h)) ∙ ap is_eq (order_itself (x_as_0 p)))
    (λ h. ap (matches p) (sym (order_same (x_as_0 p) code h)) ∙ own_match p none)

-- ---- a row more

pub named_more : (before : Option ℕ) (b c : Bool) (n : ℕ) → option_or (option_or before (row_if b n)) (row_if c n) ≡ option_or before (row_if (b || c) n)
named_more None true c n = refl
named_more None false c n = refl
named_more (Some k) b c n = refl

pub named_less : (before : Option ℕ) (b : Bool) (n : ℕ) → option_or before (row_if b n) ≡ option_or before (row_if (b || false) n)
named_less None true n = refl
named_less None false n = refl
named_less (Some k) b n = refl

-- the last row is the last that can be found
pub last_row : (before found : Option ℕ) (b : Bool) (n : ℕ) → ((k : ℕ) → before ≡ Some k → k ≤ n) → found ≡ option_or before (row_if b n) → (k : ℕ) → found ≡ Some k → k ≤ n
last_row None found true n last is k e = let same : Some n ≡ Some k = sym is ∙ e in omega (arith, same_row n k same)
last_row None found false n last is k e = let none : None ≡ Some k = sym is ∙ e in absurd cc
last_row (Some j) found b n last is k e = last k (sym is ∙ e)

below_len : (test : Opcode → Bool) (rows : List Opcode) → position_or_len test rows ≤ length rows
below_len test rows = prefix_len-le-length (λ o. not (test o)) rows

len_more : (test : Opcode → Bool) (rows : List Opcode) (o : Opcode) (place after n m : ℕ) (b : Bool) → place ≤ n → m ≡ n + 1
    → after ≡ cond (eqb place n) (n + cond b 0 1) place → cond (nat_lt after m) (Some after) None ≡ option_or (cond (nat_lt place n) (Some place) None) (row_if b n)
len_more test rows o place after n m true h long is = grind (arith, nat_tests)
len_more test rows o place after n m false h long is = grind (arith, nat_tests)

pub position_more : (test : Opcode → Bool) (rows : List Opcode) (o : Opcode) → position test (rows ++ o ∷ []) ≡ option_or (position test rows) (row_if (test o) (length rows))
position_more test rows o =
    len_more test rows o (position_or_len test rows) (position_or_len test (rows ++ o ∷ [])) (length rows) (length (rows ++ o ∷ [])) (test o) (below_len test rows)
    (length-append rows (o ∷ [])) (position_or_len_push test rows o)

there : (rows : List Opcode) (place : ℕ) → option_and_then (slice_get rows) (cond (nat_lt place (length rows)) (Some place) None) ≡ slice_get rows place
there rows place = by_test (nat_lt place (length rows)) refl
  where
    by_test : (b : Bool) → nat_lt place (length rows) ≡ b → option_and_then (slice_get rows) (cond (nat_lt place (length rows)) (Some place) None) ≡ slice_get rows place
    by_test true e = ap (λ (b : Bool). option_and_then (slice_get rows) (cond b (Some place) None)) e
    by_test false e = ap (λ (b : Bool). option_and_then (slice_get rows) (cond b (Some place) None)) e ∙ sym (slice_get_past rows place (grind (arith, nat_tests)))

-- the row at the number that is found
pub row_there : (test : Opcode → Bool) (rows : List Opcode) → option_and_then (slice_get rows) (position test rows) ≡ find test rows
row_there test rows = there rows (position_or_len test rows) ∙ sym (find_at test rows)

found_below : (place n : ℕ) (b : Bool) → nat_lt place n ≡ b → (k : ℕ) → cond b (Some place) None ≡ Some k → k < n
found_below place n true e k is = let same = same_row place k is in grind (arith, nat_tests)
found_below place n false e k is = absurd cc

pub position_below : (test : Opcode → Bool) (rows : List Opcode) (k : ℕ) → position test rows ≡ Some k → k < length rows
position_below test rows k is = found_below (position_or_len test rows) (length rows) (nat_lt (position_or_len test rows) (length rows)) refl k is

-- ---- one opcode with an X after another

pub row_here : (xs : List WithX) (i : ℕ) (x : WithX) (code : List Bool) → i < length xs → matches (get_or xs i x).pattern code ≡ true → row_with_x (drop i xs) code ≡ Some (get_or xs i x).row
row_here [] i x code h e = absurd (omega (arith, h))
row_here (y ∷ xs) zero x code h e = from_first y xs code true e
row_here (y ∷ xs) (suc i) x code h e = row_here xs i x code (omega (arith, h)) e

pub row_passed : (xs : List WithX) (i : ℕ) (x : WithX) (code : List Bool) → i < length xs → matches (get_or xs i x).pattern code ≡ false → row_with_x (drop i xs) code ≡ row_with_x (drop (i + 1) xs) code
row_passed [] i x code h e = absurd (omega (arith, h))
row_passed (y ∷ xs) zero x code h e = from_first y xs code false e
row_passed (y ∷ xs) (suc i) x code h e =
    let next : suc (i + 1) ≡ suc i + 1 = omega arith in
    row_passed xs i x code (omega (arith, h)) e ∙ ap (λ n. row_with_x (drop n (y ∷ xs)) code) next

pub none_left : (xs : List WithX) (i : ℕ) (code : List Bool) → length xs ≤ i → row_with_x (drop i xs) code ≡ None
none_left [] i code h = ap (λ l. row_with_x l code) (drop_all i [] h)
none_left (y ∷ xs) zero code h = absurd (omega (arith, h))
none_left (y ∷ xs) (suc i) code h = none_left xs i code (omega (arith, h))

-- ---- the meaning of what is found

pub meaning_found : (d : Device) (latch : List Bool) (found : Option ℕ) (row : Option Opcode) → list_all (λ b. b) latch ≡ false → found ≡ position (names_it latch) d.opcodes
    → option_and_then (slice_get d.opcodes) found ≡ row → meaning_of d (option_map (λ o. o.name) row) ≡ meaning d latch
meaning_found d latch found row some is there =
    ap (λ o. meaning_of d (option_map (λ r. r.name) o)) (sym there ∙ ap (option_and_then (slice_get d.opcodes)) is ∙ row_there (names_it latch) d.opcodes)
    ∙ ap (λ (b : Bool). meaning_of d (if b then Some (codes "BYPASS") else option_map (λ o. o.name) (find (names_it latch) d.opcodes))) (sym some)
