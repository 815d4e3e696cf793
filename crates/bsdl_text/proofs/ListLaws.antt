-- Lists with separators, one entry more.
use Rattle.std.proofs.Common.{◌≡◌, ℕ, zero, suc, ◌≤◌, ◌<◌, Bool, true, false, List, [], ◌∷◌, ◌++◌, length, refl, sym, ap, ◌∙◌, Option, arith}
use Rattle.std.proofs.lemmas.List.{append-nil}
use Rattle.bsdl_text.specs.declared.reading.Stop.{Stop}
use Rattle.bsdl_text.specs.declared.reading.Stop.TheVariants as stop
use Rattle.bsdl_text.specs.View.{Stops}
use Rattle.bsdl_text.specs.Cutting.{Lexeme}
use Rattle.bsdl_text.specs.Reading.{Read, fits, misfit, ◌>>=◌, refused_at, mark, further, separated}

-- a reader that stops where another one does
pub stops_where : {X Y : Type 0} (s : Stop) (r : Read X) (total : Read Y) → Stops s r → ((at : Option ℕ) → r ≡ misfit at → total ≡ misfit at) → Stops s total
stops_where stop.Memory r total stopped same = tt
stops_where (stop.Misfit at) r total stopped same = same at stopped

-- what was read before what is read
abbrev pub prepend : {A : Type 0} → List A → Read (List A) → Read (List A)
prepend xs (fits ys rest) = fits (xs ++ ys) rest
prepend xs (misfit at) = misfit at

pub prepend-prepend : {A : Type 0} (xs : List A) (x : A) (r : Read (List A)) → prepend xs (prepend (x ∷ []) r) ≡ prepend (xs ++ x ∷ []) r
prepend-prepend xs x (fits ys rest) = ap (λ zs. fits zs rest) (sym (append_one xs x ys))
  where
    append_one : {A : Type 0} (xs : List A) (x : A) (ys : List A) → (xs ++ x ∷ []) ++ ys ≡ xs ++ x ∷ ys
    append_one [] x ys = refl
    append_one (z ∷ xs) x ys = ap (λ zs. z ∷ zs) (append_one xs x ys)
prepend-prepend xs x (misfit at) = refl

module _ {A : Type 0} (item : List Lexeme → Read A) (separator : ℕ) (closes : List Lexeme → Bool) where
  is_prepended : (x : A) (r : Read (List A)) → (r >>= λ xs after. fits (x ∷ xs) after) ≡ prepend (x ∷ []) r
  is_prepended x (fits xs after) = refl
  is_prepended x (misfit at) = refl

  pub at_close : (n : ℕ) (ts : List Lexeme) → closes ts ≡ true → further item separator closes n ts ≡ fits [] ts
  unfolding further
  at_close zero ts close = rw close refl
  at_close (suc n) ts close = rw close refl

  none_marked : (ts : List Lexeme) → length ts ≤ 0 → (at : Option ℕ) → mark separator ts ≡ misfit at → refused_at {A = List A} ts ≡ misfit at
  none_marked [] short at no_mark = cc
  none_marked (t ∷ ts) short at no_mark = absurd (omega (arith, short))

  pub no_separator : (n : ℕ) (ts : List Lexeme) (at : Option ℕ) → length ts ≤ n → closes ts ≡ false → mark separator ts ≡ misfit at → further item separator closes n ts ≡ misfit at
  unfolding further
  no_separator zero ts at short on no_mark = rw on (none_marked ts short at no_mark)
  no_separator (suc n) ts at short on no_mark = rw (on, no_mark) refl

  has_one : (ts : List Lexeme) (t : Lexeme) (rest : List Lexeme) → mark separator ts ≡ fits t rest → 0 < length ts
  has_one [] t rest marked = cc
  has_one (u ∷ us) t rest marked = omega arith

  none_left : (ts : List Lexeme) (t : Lexeme) (rest : List Lexeme) → length ts ≤ 0 → mark separator ts ≡ fits t rest → ⊥
  none_left ts t rest short marked = omega (arith, short, has_one ts t rest marked)

  pub closed_behind : (n : ℕ) (ts : List Lexeme) (t : Lexeme) (rest : List Lexeme) → length ts ≤ n → closes ts ≡ false → mark separator ts ≡ fits t rest → closes rest ≡ true
      → further item separator closes n ts ≡ fits [] rest
  unfolding further
  closed_behind zero ts t rest short on marked close = absurd (none_left ts t rest short marked)
  closed_behind (suc n) ts t rest short on marked close = rw (on, marked, close) refl

  pub misfit_behind : (n : ℕ) (ts : List Lexeme) (t : Lexeme) (rest : List Lexeme) (at : Option ℕ) → length ts ≤ n → closes ts ≡ false → mark separator ts ≡ fits t rest → closes rest ≡ false
      → item rest ≡ misfit at → further item separator closes n ts ≡ misfit at
  unfolding further
  misfit_behind zero ts t rest at short on marked more no_item = absurd (none_left ts t rest short marked)
  misfit_behind (suc n) ts t rest at short on marked more no_item = rw (on, marked, more, no_item) refl

  -- one entry more, and one round less
  pub one_more : (n : ℕ) (ts : List Lexeme) (t : Lexeme) (rest : List Lexeme) (x : A) (after : List Lexeme) → length ts ≤ n → closes ts ≡ false → mark separator ts ≡ fits t rest → closes rest ≡ false
      → item rest ≡ fits x after → length after < length ts → (m : ℕ) × (length after ≤ m) × (further item separator closes n ts ≡ prepend (x ∷ []) (further item separator closes m after))
  unfolding further
  one_more zero ts t rest x after short on marked more here less = absurd (none_left ts t rest short marked)
  one_more (suc n) ts t rest x after short on marked more here less =
      (n, omega (arith, short, less), rw (on, marked, more, here) (is_prepended x (further item separator closes n after)))

  pub first_one : (ts : List Lexeme) (x : A) (rest : List Lexeme) → item ts ≡ fits x rest → separated item separator closes ts ≡ prepend (x ∷ []) (further item separator closes (length rest) rest)
  first_one ts x rest here = rw here (is_prepended x (further item separator closes (length rest) rest))

  -- ---- the same behind entries that were read

  module _ (total : Read (List A)) (xs : List A) (n : ℕ) (ts : List Lexeme) (is : total ≡ prepend xs (further item separator closes n ts)) where
    pub ends_here : closes ts ≡ true → total ≡ fits xs ts
    ends_here close = is ∙ ap (prepend xs) (at_close n ts close) ∙ ap (λ zs. fits zs ts) (append-nil xs)

    pub ends_behind : (t : Lexeme) (rest : List Lexeme) → length ts ≤ n → closes ts ≡ false → mark separator ts ≡ fits t rest → closes rest ≡ true → total ≡ fits xs rest
    ends_behind t rest short on marked close = is ∙ ap (prepend xs) (closed_behind n ts t rest short on marked close) ∙ ap (λ zs. fits zs rest) (append-nil xs)

    pub stops_at_mark : (at : Option ℕ) → length ts ≤ n → closes ts ≡ false → mark separator ts ≡ misfit at → total ≡ misfit at
    stops_at_mark at short on no_mark = is ∙ ap (prepend xs) (no_separator n ts at short on no_mark)

    pub stops_at_entry : (at : Option ℕ) (t : Lexeme) (rest : List Lexeme) → length ts ≤ n → closes ts ≡ false → mark separator ts ≡ fits t rest → closes rest ≡ false → item rest ≡ misfit at → total ≡ misfit at
    stops_at_entry at t rest short on marked more no_item = is ∙ ap (prepend xs) (misfit_behind n ts t rest at short on marked more no_item)

    pub goes_on : (t : Lexeme) (rest : List Lexeme) (x : A) (after : List Lexeme) → length ts ≤ n → closes ts ≡ false → mark separator ts ≡ fits t rest → closes rest ≡ false → item rest ≡ fits x after
        → length after < length ts → (m : ℕ) × (length after ≤ m) × (total ≡ prepend (xs ++ x ∷ []) (further item separator closes m after))
    goes_on t rest x after short on marked more here less =
        let next = one_more n ts t rest x after short on marked more here less in
        (next.0, next.1, is ∙ ap (prepend xs) next.2 ∙ prepend-prepend xs x (further item separator closes next.0 after))
