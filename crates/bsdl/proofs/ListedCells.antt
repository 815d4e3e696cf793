-- The cells by their numbers.
use Rattle.std.proofs.Common.{◌≡◌, ◌<◌, ℕ, zero, suc, ◌+◌, ◌-◌, Bool, true, false, nat_eq, cond, List, [], ◌∷◌, ◌++◌, append_assoc, length, map, refl, sym, ap, ◌∙◌, arith}
use Rattle.std.specs.Prelude.{Option, Some, unwrap_or, option_to_list, filter}
use Rattle.std.specs.List.{flat_map, range_with_len}
use Rattle.std.proofs.lemmas.List.{map-append}
use Rattle.std.proofs.lemmas.List.Elements.{filter-append}
use Rattle.bsdl_values.specs.CellRows.{CellRow}
use Rattle.bsdl_device.specs.declared.Cell.{Cell}
use Rattle.bsdl.specs.Bits.{last_of}

last_behind : {A : Type 0} (xs : List A) (x : A) → last_of (xs ++ x ∷ []) ≡ Some x
last_behind [] x = refl
last_behind (y ∷ xs) x = ap (λ o. Some (unwrap_or o y)) (last_behind xs x)

nil : {A : Type 0} (xs : List A) → xs ++ [] ≡ xs
nil [] = refl
nil (x ∷ xs) = ap (λ ys. x ∷ ys) (nil xs)

pub last_more : (f : CellRow → Cell) (rows : List CellRow) (r : CellRow) (n : ℕ) → last_of (map f (filter (λ s. nat_eq s.number n) (rows ++ r ∷ [])))
    ≡ cond (nat_eq r.number n) (Some (f r)) (last_of (map f (filter (λ s. nat_eq s.number n) rows)))
last_more f rows r n = by_test (nat_eq r.number n) refl
  where
    by_test : (b : Bool) → nat_eq r.number n ≡ b → last_of (map f (filter (λ s. nat_eq s.number n) (rows ++ r ∷ []))) ≡ cond (nat_eq r.number n) (Some (f r)) (last_of (map f (filter (λ s. nat_eq s.number n) rows)))
    by_test true is =
        let found : filter (λ s. nat_eq s.number n) (rows ++ r ∷ []) ≡ filter (λ s. nat_eq s.number n) rows ++ r ∷ [] = filter-append (λ s. nat_eq s.number n) rows (r ∷ []) ∙ rw is refl in
        rw is (ap (λ xs. last_of (map f xs)) found ∙ ap last_of (map-append f (filter (λ s. nat_eq s.number n) rows) (r ∷ [])) ∙ last_behind (map f (filter (λ s. nat_eq s.number n) rows)) (f r))
    by_test false is =
        let found : filter (λ s. nat_eq s.number n) (rows ++ r ∷ []) ≡ filter (λ s. nat_eq s.number n) rows = filter-append (λ s. nat_eq s.number n) rows (r ∷ []) ∙ rw is (nil (filter (λ s. nat_eq s.number n) rows)) in
        rw is (ap (λ xs. last_of (map f xs)) found)

-- one more number
pub listed_more : {A : Type 0} (g : ℕ → List A) (xs : List A) (k len : ℕ) → k < len → (xs ++ g k) ++ flat_map g (range_with_len (k + 1) (len - (k + 1))) ≡ xs ++ flat_map g (range_with_len k (len - k))
listed_more g xs k len h =
    let more : len - k ≡ suc (len - (k + 1)) = omega arith in
    append_assoc xs (g k) (flat_map g (range_with_len (k + 1) (len - (k + 1)))) ∙ sym (ap (λ (n : ℕ). xs ++ flat_map g (range_with_len k n)) more)

-- numbers that have one row each
only : (f : CellRow → Cell) (rows : List CellRow) → length rows ≡ 1 → option_to_list (last_of (map f rows)) ≡ map f rows
only f [] one = absurd (omega arith)
only f (r ∷ []) one = refl
only f (r ∷ s ∷ rows) one = absurd (omega arith)

flat_same : {A : Type 0} (g h : ℕ → List A) (a n : ℕ) → ((k : ℕ) → k < a + n → g k ≡ h k) → flat_map g (range_with_len a n) ≡ flat_map h (range_with_len a n)
flat_same g h a zero same = refl
flat_same g h a (suc n) same =
    ap (λ xs. xs ++ flat_map g (range_with_len (a + 1) n)) (same a (omega arith)) ∙ ap (λ xs. h a ++ xs) (flat_same g h (a + 1) n (λ k below. same k (omega arith)))

pub each_once : (f : CellRow → Cell) (rows : List CellRow) (table : ℕ → Option Cell) (len : ℕ) → ((n : ℕ) → table n ≡ last_of (map f (filter (λ r. nat_eq r.number n) rows)))
    → ((k : ℕ) → k < len → length (filter (λ r. nat_eq r.number k) rows) ≡ 1)
    → flat_map (λ k. option_to_list (table k)) (range_with_len 0 len) ≡ flat_map (λ k. map f (filter (λ r. nat_eq r.number k) rows)) (range_with_len 0 len)
each_once f rows table len is once =
    flat_same (λ k. option_to_list (table k)) (λ k. map f (filter (λ r. nat_eq r.number k) rows)) 0 len (λ k below.
    let inside : k < len = omega arith in
    ap option_to_list (is k) ∙ only f (filter (λ r. nat_eq r.number k) rows) (once k inside))
