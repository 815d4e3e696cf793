-- Each cell of a device is that of its row, and has the port that the row names.
use Rattle.std.proofs.Common.{◌≡◌, ◌<◌, ◌≤◌, ℕ, zero, suc, ◌+◌, Bool, true, false, nat_eq, nat_lt, ◌&&◌, List, [], ◌∷◌, ◌++◌, length, map, max, fold, filter, refl, sym, ap, subst, ◌∙◌, arith}
use Rattle.std.specs.Prelude.{Option, Some, None, Result, Ok, Err, is_none, is_some, not, nat_le, slice_get, if◌then◌else◌}
use Rattle.std.specs.List.{AllByRecursion, flat_map, list_all, range_with_len}
use Rattle.std.proofs.lemmas.Bool.Decides.{nat_tests}
use Rattle.std.proofs.lemmas.List.{length-map}
use Rattle.std.proofs.lemmas.Option.{slice_get_within}
use Rattle.jt_limits.specs.Limits.{limits, subscript_limit}
use Rattle.bsdl_device.specs.Device.{Device}
use Rattle.bsdl_device.specs.Driving.{drives}
use Rattle.bsdl_device.specs.Ports as found
use Rattle.bsdl_device.specs.declared.Cell.{Cell}
use Rattle.bsdl_values.specs.CellRows.{CellRow, PortName}
use Rattle.bsdl_entity.specs.Entity.{File}
use Rattle.bsdl_description.specs.Describing.{Description, Refusal, described, ◌>>?◌}
use Rattle.bsdl_rules.specs.Fits.{cells_end, has_no_port, is_driven_below, is_fit, names_tap, port_bit, port_fits, row_fits, rows_numbered}
use Rattle.bsdl_rules.specs.Limits.{cells_within, instructions_within, ports_within, users_within}
use Rattle.bsdl_lookup.specs.PortNumbers as port_numbers
use Rattle.bsdl.specs.Boundary.{cell}
use Rattle.bsdl.specs.Built.{device}
use Rattle.bsdl.specs.Form.{text_form}
use Rattle.bsdl.specs.Judging.{fault, file_says, device_or_refusal, text_says}
use Rattle.bsdl.specs.RowCells.{HasItsCell, HasRowCells, bit_named, row_cell, text_described}
use Rattle.bsdl.proofs.OnceLaws.{at_least, both, cell_fits, each_cell_once, each_fits, limits_kept}
use Rattle.bsdl.proofs.LimitedLaws.{cells_len}
use Rattle.bsdl.proofs.OrderLaws.{same_ok}
use Rattle.bsdl.proofs.BitLaws.{in_upper, is_found}

-- ---- entries of lists

all_from : {A : Type 0} (P : A → Type 0) (xs : List A) → ((j : ℕ) (x : A) → slice_get xs j ≡ Some x → P x) → AllByRecursion P xs
all_from P [] each = tt
all_from P (x ∷ xs) each = (each 0 x refl, all_from P xs (λ j y at. each (suc j) y at))

one_of : {A : Type 0} (P : A → Type 0) (xs : List A) → AllByRecursion P xs → (j : ℕ) (x : A) → slice_get xs j ≡ Some x → P x
one_of P [] all j x at = absurd cc
one_of P (y ∷ xs) all zero x at =
    let same : y ≡ x = cc in
    subst P same all.0
one_of P (y ∷ xs) all (suc j) x at = one_of P xs all.1 j x at

-- an entry of these
abbrev pub IsAmong : {A : Type 0} → List A → A → Type 0
IsAmong xs x = (j : ℕ) × (slice_get xs j ≡ Some x)

kept : {A : Type 0} (f : A → Bool) (xs : List A) (j : ℕ) (x : A) → slice_get xs j ≡ Some x → f x ≡ true → IsAmong (filter f xs) x
kept f [] j x at passes = absurd cc
kept f (y ∷ xs) zero x at passes =
    let same : y ≡ x = cc in
    let here : f y ≡ true = ap f same ∙ passes in
    (0, rw here at)
kept f (y ∷ xs) (suc j) x at passes = by_test (f y) refl (kept f xs j x at passes)
  where
    by_test : (b : Bool) → f y ≡ b → IsAmong (filter f xs) x → IsAmong (filter f (y ∷ xs)) x
    by_test true is there = (suc there.0, rw is there.1)
    by_test false is there = (there.0, rw is there.1)

-- an entry that a filter keeps
record IsKept {A : Type 0} (f : A → Bool) (xs : List A) (x : A) : Type 0 where
  among : IsAmong xs x
  passes : f x ≡ true

kept_from : {A : Type 0} (f : A → Bool) (xs : List A) (j : ℕ) (x : A) → slice_get (filter f xs) j ≡ Some x → IsKept f xs x
kept_from f [] j x at = absurd cc
kept_from f (y ∷ xs) j x at = by_test (f y) refl (λ i there. kept_from f xs i x there)
  where
    later : IsKept f xs x → IsKept f (y ∷ xs) x
    later this = record { among = (suc this.among.0, this.among.1); passes = this.passes }

    at_place : (i : ℕ) → f y ≡ true → slice_get (y ∷ filter f xs) i ≡ Some x → ((i : ℕ) → slice_get (filter f xs) i ≡ Some x → IsKept f xs x) → IsKept f (y ∷ xs) x
    at_place zero is here rest =
        let same : y ≡ x = cc in
        record { among = (0, ap Some same); passes = ap f (sym same) ∙ is }
    at_place (suc i) is here rest = later (rest i here)

    by_test : (b : Bool) → f y ≡ b → ((i : ℕ) → slice_get (filter f xs) i ≡ Some x → IsKept f xs x) → IsKept f (y ∷ xs) x
    by_test true is rest =
        let here : slice_get (y ∷ filter f xs) j ≡ Some x = rw is at at in
        at_place j is here rest
    by_test false is rest =
        let there : slice_get (filter f xs) j ≡ Some x = rw is at at in
        later (rest j there)

alone : {A : Type 0} (xs : List A) (x y : A) → xs ≡ x ∷ [] → IsAmong xs y → x ≡ y
alone {A = A} xs x y only among = by_place among.0 (ap (λ (l : List A). slice_get l among.0) (sym only) ∙ among.1)
  where
    by_place : (j : ℕ) → slice_get (x ∷ []) j ≡ Some y → x ≡ y
    by_place zero at = cc
    by_place (suc j) at = absurd cc

-- ---- the rows of a number

-- the only row of a number, which fits
pub record IsOnlyRow (d : Description) (k : ℕ) (r : CellRow) : Type 0 where
  pub only : rows_numbered d k ≡ r ∷ []
  pub among : IsAmong d.cells r
  pub number : r.number ≡ k
  pub fits : row_fits d r ≡ true

one_row : (d : Description) (k : ℕ) (rows : List CellRow) → rows_numbered d k ≡ rows → length rows ≡ 1 → list_all (row_fits d) rows ≡ true → (r : CellRow) × IsOnlyRow d k r
one_row d k [] are one fit = absurd cc
one_row d k (r ∷ []) are one fit =
    let this = kept_from (λ s. nat_eq s.number k) d.cells 0 r (ap (λ (l : List CellRow). slice_get l 0) are) in
    let place : r.number ≡ k = grind (arith, nat_tests, this.passes) in
    (r, record { only = are; among = this.among; number = place; fits = (both (row_fits d r) true fit).0 })
one_row d k (r ∷ s ∷ rows) are one fit = absurd (omega (arith, one))

pub row_at : (d : Description) → fault d ≡ None → (k : ℕ) → k < d.boundary_length → (r : CellRow) × IsOnlyRow d k r
row_at d e k h =
    let below : nat_lt k d.boundary_length ≡ true = grind (arith, nat_tests) in
    let here : (nat_eq (length (rows_numbered d k)) 1 && list_all (row_fits d) (rows_numbered d k)) ≡ true = rw below at (cell_fits d e k h) in
    let fit = (both (nat_eq (length (rows_numbered d k)) 1) (list_all (row_fits d) (rows_numbered d k)) here).1 in
    one_row d k (rows_numbered d k) refl (each_cell_once d e k h) fit

-- ---- each row stands below the length

below_end : (n : ℕ) (rows : List CellRow) → AllByRecursion (λ r. r.number < fold (λ m s. max m (suc s.number)) n rows) rows
below_end n [] = tt
below_end n (r ∷ rows) =
    let more = at_least (max n (suc r.number)) rows in
    (omega (arith, more), below_end (max n (suc r.number)) rows)

small_numbers : (d : Description) → fault d ≡ None → list_all (λ r. nat_le r.number subscript_limit) d.cells ≡ true
small_numbers d e =
    let behind = (both (instructions_within d) (cells_within d && (ports_within d && users_within d)) (limits_kept d e)).1 in
    let within = (both (cells_within d) (ports_within d && users_within d) behind).0 in
    (both (nat_le d.boundary_length limits.cells) (list_all (λ r. nat_le r.number subscript_limit) d.cells) within).1

passes_at : {A : Type 0} (f : A → Bool) (xs : List A) → list_all f xs ≡ true → (j : ℕ) (x : A) → slice_get xs j ≡ Some x → f x ≡ true
passes_at f [] all j x at = absurd cc
passes_at f (y ∷ xs) all zero x at =
    let same : y ≡ x = cc in
    ap f (sym same) ∙ (both (f y) (list_all f xs) all).0
passes_at f (y ∷ xs) all (suc j) x at = passes_at f xs (both (f y) (list_all f xs) all).1 j x at

nat_itself : (n : ℕ) → nat_eq n n ≡ true
nat_itself n = grind (arith, nat_tests)

row_below : (d : Description) → fault d ≡ None → (j : ℕ) (r : CellRow) → slice_get d.cells j ≡ Some r → r.number < d.boundary_length
row_below d e j r at = by_test (nat_lt r.number d.boundary_length) refl
  where
    fit : is_fit d r.number ≡ true
    fit =
        let small : nat_le r.number subscript_limit ≡ true = passes_at (λ s. nat_le s.number subscript_limit) d.cells (small_numbers d e) j r at in
        let low : r.number ≤ subscript_limit = grind (arith, nat_tests, small) in
        let listed : r.number < cells_end d = one_of (λ s. s.number < cells_end d) d.cells (below_end d.boundary_length d.cells) j r at in
        each_fits d e r.number (omega (arith, low)) listed

    some : (rows : List CellRow) → IsAmong rows r → nat_eq (length rows) 0 ≡ true → r.number < d.boundary_length
    some [] among none = absurd cc
    some (s ∷ rows) among none =
        let long : length (s ∷ rows) ≡ 0 = grind (arith, nat_tests, none) in
        absurd (omega (arith, long))

    by_test : (b : Bool) → nat_lt r.number d.boundary_length ≡ b → r.number < d.boundary_length
    by_test true is = grind (arith, nat_tests, is)
    by_test false is =
        let none : nat_eq (length (rows_numbered d r.number)) 0 ≡ true = rw is at fit in
        some (rows_numbered d r.number) (kept (λ s. nat_eq s.number r.number) d.cells j r at (nat_itself r.number)) none

-- a row is the only one of its number
pub only_row : (d : Description) → fault d ≡ None → (j : ℕ) (r : CellRow) → slice_get d.cells j ≡ Some r → (r.number < d.boundary_length) × IsOnlyRow d r.number r
only_row d e j r at =
    let below = row_below d e j r at in
    let this = row_at d e r.number below in
    let same : this.0 ≡ r = alone (rows_numbered d r.number) this.0 r this.1.only (kept (λ s. nat_eq s.number r.number) d.cells j r at (nat_itself r.number)) in
    (below, subst (IsOnlyRow d r.number) same this.1)

-- ---- the cells of a device

first_one : {A : Type 0} (xs ys : List A) → length xs ≡ 1 → slice_get (xs ++ ys) 0 ≡ slice_get xs 0
first_one [] ys one = absurd cc
first_one (x ∷ xs) ys one = refl

next_one : {A : Type 0} (xs ys : List A) (k : ℕ) → length xs ≡ 1 → slice_get (xs ++ ys) (suc k) ≡ slice_get ys k
next_one [] ys k one = absurd cc
next_one (x ∷ []) ys k one = refl
next_one (x ∷ y ∷ xs) ys k one = absurd (omega (arith, one))

placed : {A : Type 0} (g : ℕ → List A) (a n k : ℕ) → ((j : ℕ) → a ≤ j → j < a + n → length (g j) ≡ 1) → k < n → slice_get (flat_map g (range_with_len a n)) k ≡ slice_get (g (a + k)) 0
placed g a zero k one less = absurd (omega (arith, less))
placed g a (suc n) zero one less =
    let place : a ≡ a + 0 = omega arith in
    first_one (g a) (flat_map g (range_with_len (a + 1) n)) (one a (omega arith) (omega arith)) ∙ ap (λ (j : ℕ). slice_get (g j) 0) place
placed g a (suc n) (suc k) one less =
    let place : a + 1 + k ≡ a + suc k = omega arith in
    next_one (g a) (flat_map g (range_with_len (a + 1) n)) k (one a (omega arith) (omega arith))
    ∙ placed g (a + 1) n k (λ j low high. one j (omega (arith, low)) (omega (arith, high))) (omega (arith, less))
    ∙ ap (λ (j : ℕ). slice_get (g j) 0) place

one_cell : (d : Description) → fault d ≡ None → (j : ℕ) → 0 ≤ j → j < 0 + d.boundary_length → length (map (cell d.ports) (rows_numbered d j)) ≡ 1
one_cell d e j low high = length-map (rows_numbered d j) (cell d.ports) ∙ each_cell_once d e j (omega (arith, high))

pub cell_at : (d : Description) → fault d ≡ None → (k : ℕ) → k < d.boundary_length → (r : CellRow) → rows_numbered d k ≡ r ∷ [] → slice_get (device d).cells k ≡ Some (cell d.ports r)
cell_at d e k h r only =
    let zero_is : 0 + k ≡ k = omega arith in
    placed (λ j. map (cell d.ports) (rows_numbered d j)) 0 d.boundary_length k (one_cell d e) h
    ∙ ap (λ (j : ℕ). slice_get (map (cell d.ports) (rows_numbered d j)) 0) zero_is
    ∙ ap (λ (l : List CellRow). slice_get (map (cell d.ports) l) 0) only

-- the row of a cell
pub record IsCellOf (d : Description) (k : ℕ) (c : Cell) (r : CellRow) : Type 0 where
  pub row : IsOnlyRow d k r
  pub cell_is : c ≡ cell d.ports r

pub row_of : (d : Description) → fault d ≡ None → (k : ℕ) (c : Cell) → slice_get (device d).cells k ≡ Some c → (r : CellRow) × IsCellOf d k c r
row_of d e k c at =
    let within = slice_get_within (device d).cells k c at in
    let long = cells_len d 0 d.boundary_length (λ j low high. each_cell_once d e j (omega (arith, high))) in
    let below : k < d.boundary_length = omega (arith, within, long) in
    let this = row_at d e k below in
    let there : Some c ≡ Some (cell d.ports this.0) = sym at ∙ cell_at d e k below this.0 this.1.only in
    let same : c ≡ cell d.ports this.0 = cc in
    (this.0, record { row = this.1; cell_is = same })

-- ---- the port of a row

-- a row with a port names one that is there
pub numbered : (d : Description) (r : CellRow) (name : PortName) → port_fits d r ≡ true → r.port ≡ Some name → (k : ℕ) × (port_numbers.bit_number 0 d.ports name ≡ Some k)
numbered d r name fits is = by_function (has_no_port r.function) refl
  where
    by_number : (o : Option ℕ) → port_numbers.bit_number 0 d.ports name ≡ o → is_some o ≡ true → (k : ℕ) × (port_numbers.bit_number 0 d.ports name ≡ Some k)
    by_number None at some = absurd cc
    by_number (Some k) at some = (k, at)

    by_function : (b : Bool) → has_no_port r.function ≡ b → (k : ℕ) × (port_numbers.bit_number 0 d.ports name ≡ Some k)
    by_function true inner =
        let none : is_none (Some name) ≡ true = rw (inner, is) at fits in
        absurd cc
    by_function false outer =
        let here : (is_some (port_bit d r) && (not (names_tap d r.port) && not (drives r.function && is_driven_below d r))) ≡ true = rw outer at fits in
        let some = (both (is_some (port_bit d r)) (not (names_tap d r.port) && not (drives r.function && is_driven_below d r)) here).0 in
        let there : is_some (port_numbers.bit_number 0 d.ports name) ≡ true = rw is at some in
        by_number (port_numbers.bit_number 0 d.ports name) refl there

-- the port of a row is found as it is numbered
pub record IsNamed (d : Description) (r : CellRow) : Type 0 where
  pub same : bit_named (device d).ports r.port ≡ port_bit d r
  pub there : is_some (bit_named (device d).ports r.port) ≡ is_some r.port

pub named : (d : Description) (r : CellRow) → port_fits d r ≡ true → IsNamed d r
named d r fits = by_port r.port refl
  where
    by_port : (o : Option PortName) → r.port ≡ o → IsNamed d r
    by_port None is = record { same = rw is refl; there = rw is refl }
    by_port (Some name) is =
        let number = numbered d r name fits is in
        let at : found.bit_number name.name name.index (device d).ports ≡ Some number.0 = (is_found d.taps d.ports name.name name number.0 (in_upper 0 d.ports name number.0 number.1) number.1).number in
        record { same = rw (is, number.1) at; there = rw (is, at) refl }

named_cell : (d : Description) (r : CellRow) → port_fits d r ≡ true → cell d.ports r ≡ row_cell (device d).ports r
named_cell d r fits = ap (λ (o : Option ℕ). record { function = r.function; port = o; control = if drives r.function then r.control else None }) (sym (named d r fits).same)

-- ---- the whole

pub port_of_fit : (d : Description) (r : CellRow) → row_fits d r ≡ true → port_fits d r ≡ true
port_of_fit d r fits = (both (port_fits d r) _ fits).0

has_rows : (d : Description) → fault d ≡ None → HasRowCells d (device d)
has_rows d e = record {
  rows = all_from (HasItsCell (device d)) d.cells (λ j r at.
      let this = only_row d e j r at in
      let fits = port_of_fit d r this.1.fits in
      record {
        port = (named d r fits).there;
        cell = cell_at d e r.number this.0 r this.1.only ∙ ap Some (named_cell d r fits);
      });
  cells = λ k c at.
      let this = row_of d e k c at in
      (this.0, this.1.row.only, this.1.cell_is ∙ named_cell d this.0 (port_of_fit d this.0 this.1.row.fits));
}

judged : (P : Description → Device → Type 0) → ((d : Description) → fault d ≡ None → P d (device d)) → (d : Description) (v : Device) (o : Option Refusal) → fault d ≡ o → device_or_refusal o d ≡ Ok v → P d v
judged P each d v (Some r) is e = absurd cc
judged P each d v None is e = subst (P d) (same_ok (device d) v e) (each d is)

-- what holds of each description that is not refused holds of each text
pub of_texts : (P : Description → Device → Type 0) → ((d : Description) → fault d ≡ None → P d (device d)) → (text : List ℕ) (v : Device) → text_says text ≡ Ok v
    → (d : Description) × (text_described text ≡ Ok d) × P d v
of_texts P each text v e = spelt (text_form text) e
  where
    told : (x : Result Description Refusal) → (x >>? λ d. device_or_refusal (fault d) d) ≡ Ok v → (d : Description) × (x ≡ Ok d) × P d v
    told (Err r) says = absurd cc
    told (Ok d) says = (d, refl, judged P each d v (fault d) refl says)

    spelt : (x : Result File Refusal) → (x >>? file_says) ≡ Ok v → (d : Description) × ((x >>? described) ≡ Ok d) × P d v
    spelt (Err r) says = absurd cc
    spelt (Ok f) says = told (described f) says

pub every_device : (text : List ℕ) (v : Device) → text_says text ≡ Ok v → (d : Description) × (text_described text ≡ Ok d) × HasRowCells d v
every_device = of_texts HasRowCells has_rows
