-- Cells by their numbers, one row more; and which are fit.
use Rattle.std.proofs.Common.{◌≡◌, ◌<◌, ◌≤◌, ℕ, zero, suc, ◌+◌, Bool, true, false, nat_eq, nat_lt, min, max, ◌&&◌, cond, List, [], ◌∷◌, ◌++◌, length, refl, sym, ap, ◌∙◌, arith}
use Rattle.std.specs.Prelude.{Option, Some, filter, if◌then◌else◌}
use Rattle.std.specs.List.{find, list_all, fold, range_with_len}
use Rattle.std.proofs.lemmas.Bool.Decides.{nat_tests}
use Rattle.std.proofs.lemmas.List.Elements.{filter-append}
use Rattle.jt_limits.specs.Limits.{subscript_limit}
use Rattle.bsdl_values.specs.CellRows.{CellRow}
use Rattle.bsdl_description.specs.Describing.{Description}
use Rattle.bsdl_rules.specs.Fits as fits
use Rattle.bsdl_lookup.specs.Table.{alone, is_fit, only_row_fits, with_row}

alone_more : (test : CellRow → Bool) (rows : List CellRow) (r : CellRow) → alone test (rows ++ r ∷ []) ≡ with_row (alone test rows) (test r)
alone_more test [] r = refl
alone_more test (s ∷ []) r = refl
alone_more test (s ∷ t ∷ rows) r = refl

nil : {A : Type 0} (xs : List A) → xs ++ [] ≡ xs
nil [] = refl
nil (x ∷ xs) = ap (λ ys. x ∷ ys) (nil xs)

pub kept_more : (test : CellRow → Bool) (rows : List CellRow) (r : CellRow) (n : ℕ) → only_row_fits test (rows ++ r ∷ []) n ≡ cond (nat_eq r.number n) (with_row (only_row_fits test rows n) (test r)) (only_row_fits test rows n)
kept_more test rows r n = by_test (nat_eq r.number n) refl
  where
    by_test : (b : Bool) → nat_eq r.number n ≡ b → only_row_fits test (rows ++ r ∷ []) n ≡ cond (nat_eq r.number n) (with_row (only_row_fits test rows n) (test r)) (only_row_fits test rows n)
    by_test true is = rw is (ap (alone test) (filter-append (λ s. nat_eq s.number n) rows (r ∷ []) ∙ rw is refl) ∙ alone_more test (filter (λ s. nat_eq s.number n) rows) r)
    by_test false is = rw is (ap (alone test) (filter-append (λ s. nat_eq s.number n) rows (r ∷ []) ∙ rw is (nil (filter (λ s. nat_eq s.number n) rows))))

one_row : (test : CellRow → Bool) (rows : List CellRow) (below : Bool)
    → (if below then nat_eq (length rows) 1 && list_all test rows else nat_eq (length rows) 0) ≡ is_fit below (alone test rows)
one_row test [] true = refl
one_row test [] false = refl
one_row test (r ∷ []) true = by_test (test r) refl
  where
    by_test : (b : Bool) → test r ≡ b → (nat_eq (length (r ∷ [])) 1 && list_all test (r ∷ [])) ≡ is_fit true (Some (test r))
    by_test true is = rw is refl
    by_test false is = rw is refl
one_row test (r ∷ []) false = refl
one_row test (r ∷ s ∷ rows) true =
    let many : nat_eq (length (r ∷ s ∷ rows)) 1 ≡ false = grind (arith, nat_tests) in
    rw many refl
one_row test (r ∷ s ∷ rows) false =
    let some : nat_eq (length (r ∷ s ∷ rows)) 0 ≡ false = grind (arith, nat_tests) in
    rw some refl

-- a cell is fit by the table
pub fit_by : (d : Description) (n length : ℕ) (found : Option Bool) → n ≤ subscript_limit → length ≡ min d.boundary_length (suc subscript_limit) → found ≡ only_row_fits (fits.row_fits d) d.cells n → fits.is_fit d n ≡ is_fit (nat_lt n length) found
fit_by d n length found few len is =
    let below : nat_lt n length ≡ nat_lt n d.boundary_length = grind (arith, nat_tests) in
    one_row (fits.row_fits d) (fits.rows_numbered d n) (nat_lt n d.boundary_length) ∙ sym (rw (below, is) refl)

-- the first number that fails is the same where tests agree
pub find_same : (f g : ℕ → Bool) (a n : ℕ) → ((k : ℕ) → k < a + n → f k ≡ g k) → find f (range_with_len a n) ≡ find g (range_with_len a n)
find_same f g a zero same = refl
find_same f g a (suc n) same =
    let here : f a ≡ g a = same a (omega arith) in
    rw here (ap (λ o. cond (g a) (Some a) o) (find_same f g (a + 1) n (λ k h. same k (omega arith))))

capped_fold : (a b : ℕ) (rows : List CellRow) → min a (suc subscript_limit) ≡ min b (suc subscript_limit) → min (fold (λ n r. max n (suc r.number)) a rows) (suc subscript_limit) ≡ min (fold (λ n r. max n (suc r.number)) b rows) (suc subscript_limit)
capped_fold a b [] same = same
capped_fold a b (r ∷ rows) same = capped_fold (max a (suc r.number)) (max b (suc r.number)) rows (grind arith)

pub end_by : (d : Description) (length : ℕ) → length ≡ min d.boundary_length (suc subscript_limit) → min (fold (λ n r. max n (suc r.number)) length d.cells) (suc subscript_limit) ≡ min (suc subscript_limit) (fits.cells_end d)
end_by d length len =
    let same : min length (suc subscript_limit) ≡ min d.boundary_length (suc subscript_limit) = omega arith in
    capped_fold length d.boundary_length d.cells same ∙ swapped (fits.cells_end d)
  where
    swapped : (n : ℕ) → min n (suc subscript_limit) ≡ min (suc subscript_limit) n
    swapped n = omega arith
