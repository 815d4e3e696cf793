-- A description that no rule refuses lists each cell once.
use Rattle.std.proofs.Common.{◌≡◌, ◌<◌, ◌≤◌, ℕ, zero, suc, ◌+◌, Bool, true, false, nat_eq, nat_lt, min, max, ◌&&◌, List, [], ◌∷◌, length, refl, sym, ap, ◌∙◌, arith}
use Rattle.std.specs.Option.{option_or}
use Rattle.std.specs.Prelude.{Option, Some, None, not, option_map, nat_le}
use Rattle.std.specs.List.{find, fold, range_with_len, list_all}
use Rattle.std.proofs.lemmas.Bool.Decides.{nat_tests}
use Rattle.jt_limits.specs.Limits.{limits, subscript_limit}
use Rattle.bsdl_values.specs.CellRows.{CellRow}
use Rattle.bsdl_description.specs.Describing.{Description, Refusal, bad_capture, bad_cell, bad_id, bad_length, too_large}
use Rattle.bsdl_rules.specs.Fits.{cells_end, is_fit, rows_numbered, row_fits, unfit_cell}
use Rattle.bsdl_rules.specs.Lengths.{captures_one, ends_in_one, lengths_fit}
use Rattle.bsdl_rules.specs.Limits.{instructions_within, cells_within, is_within_limits, ports_within, users_within}
use Rattle.bsdl_rules.specs.Twice.{given_again}
use Rattle.bsdl.specs.Judging.{fault, twice_in, unless}

pub record Neither (a b : Option Refusal) : Type 0 where
  pub first : a ≡ None
  pub second : b ≡ None

pub neither : (a b : Option Refusal) → option_or a b ≡ None → Neither a b
neither None b e = record { first = refl; second = e }
neither (Some r) b e = absurd cc

pub holds : (b : Bool) (r : Refusal) → unless b r ≡ None → b ≡ true
holds true r e = refl
holds false r e = absurd cc

none_mapped : (o : Option ℕ) → option_map bad_cell o ≡ None → o ≡ None
none_mapped None e = refl
none_mapped (Some n) e = absurd cc

pub both : (a b : Bool) → (a && b) ≡ true → (a ≡ true) × (b ≡ true)
both true b h = (refl, h)
both false b h = absurd cc

none_found : (f : ℕ → Bool) (a n k : ℕ) → find f (range_with_len a n) ≡ None → a ≤ k → k < a + n → f k ≡ false
none_found f a zero k e low high = absurd (omega arith)
none_found f a (suc n) k e low high = by_test (f a) refl (λ rest above. none_found f (a + 1) n k rest above (omega arith))
  where
    by_place : (here : Bool) → nat_eq a k ≡ here → f a ≡ false → (a + 1 ≤ k → f k ≡ false) → f k ≡ false
    by_place true same fails rest =
        let place : a ≡ k = grind (arith, nat_tests) in
        ap f (sym place) ∙ fails
    by_place false apart fails rest = rest (grind (arith, nat_tests))

    by_test : (b : Bool) → f a ≡ b → (find f (range_with_len (a + 1) n) ≡ None → a + 1 ≤ k → f k ≡ false) → f k ≡ false
    by_test true is rest =
        let found : find f (range_with_len a (suc n)) ≡ Some a = rw is refl in
        absurd cc
    by_test false is rest =
        let later : find f (range_with_len a (suc n)) ≡ find f (range_with_len (a + 1) n) = rw is refl in
        by_place (nat_eq a k) refl is (rest (sym later ∙ e))

pub at_least : (n : ℕ) (rows : List CellRow) → n ≤ fold (λ m r. max m (suc r.number)) n rows
at_least n [] = omega arith
at_least n (r ∷ rows) =
    let more = at_least (max n (suc r.number)) rows in
    omega arith

one_listed : (d : Description) (k : ℕ) → k < d.boundary_length → is_fit d k ≡ true → length (rows_numbered d k) ≡ 1
one_listed d k h fit =
    let below : nat_lt k d.boundary_length ≡ true = grind (arith, nat_tests) in
    let here : (nat_eq (length (rows_numbered d k)) 1 && list_all (row_fits d) (rows_numbered d k)) ≡ true = rw below at fit in
    let one = (both (nat_eq (length (rows_numbered d k)) 1) (list_all (row_fits d) (rows_numbered d k)) here).0 in
    grind (arith, nat_tests, one)

pub not_false : (b : Bool) → not b ≡ false → b ≡ true
not_false true e = refl
not_false false e = absurd cc

-- of the cells up to 65,535 none is unfit
pub each_fits : (d : Description) → fault d ≡ None → (k : ℕ) → k < suc subscript_limit → k < cells_end d → is_fit d k ≡ true
each_fits d e k small listed =
    let names = neither (twice_in d (given_again d)) _ e in
    let lengths = neither (unless (lengths_fit d) bad_length) _ names.second in
    let ends = neither (option_or (unless (captures_one d.capture) bad_capture) (unless (ends_in_one d.idcodes) bad_id)) _ lengths.second in
    let cells = neither (option_map bad_cell (unfit_cell d)) (unless (is_within_limits d) too_large) ends.second in
    let unfit : unfit_cell d ≡ None = none_mapped (unfit_cell d) cells.first in
    let inside : k < 0 + min (suc subscript_limit) (cells_end d) = omega (arith, small, listed) in
    not_false (is_fit d k) (none_found (λ n. not (is_fit d n)) 0 (min (suc subscript_limit) (cells_end d)) k unfit (omega arith) inside)

-- no limit is passed
pub limits_kept : (d : Description) → fault d ≡ None → is_within_limits d ≡ true
limits_kept d e =
    let names = neither (twice_in d (given_again d)) _ e in
    let lengths = neither (unless (lengths_fit d) bad_length) _ names.second in
    let ends = neither (option_or (unless (captures_one d.capture) bad_capture) (unless (ends_in_one d.idcodes) bad_id)) _ lengths.second in
    let cells = neither (option_map bad_cell (unfit_cell d)) (unless (is_within_limits d) too_large) ends.second in
    holds (is_within_limits d) too_large cells.second

pub cell_fits : (d : Description) → fault d ≡ None → (k : ℕ) → k < d.boundary_length → is_fit d k ≡ true
cell_fits d e k h =
    let behind = (both (instructions_within d) (cells_within d && (ports_within d && users_within d)) (limits_kept d e)).1 in
    let within = (both (cells_within d) (ports_within d && users_within d) behind).0 in
    let few : nat_le d.boundary_length limits.cells ≡ true = (both (nat_le d.boundary_length limits.cells) _ within).0 in
    let small : d.boundary_length ≤ limits.cells = grind (arith, nat_tests, few) in
    let reach : d.boundary_length ≤ cells_end d = at_least d.boundary_length d.cells in
    each_fits d e k (omega (arith, h, small)) (omega (arith, h, reach))

pub each_cell_once : (d : Description) → fault d ≡ None → (k : ℕ) → k < d.boundary_length → length (rows_numbered d k) ≡ 1
each_cell_once d e k h = one_listed d k h (cell_fits d e k h)
