-- Entries with separators between them, one entry more.
use Rattle.std.proofs.Common.{◌≡◌, ℕ, zero, suc, ◌≤◌, ◌<◌, true, false, List, [], ◌∷◌, ◌++◌, length, refl, ap, ◌∙◌, Option, arith}
use Rattle.std.proofs.lemmas.List.{append-nil}
use Rattle.bsdl_text.specs.Cutting.{Lexeme}
use Rattle.bsdl_text.specs.Reading.{Read, fits, misfit, ◌>>=◌, mark, stands, chain, joined_by}
use Rattle.bsdl_text.proofs.ListLaws.{prepend, prepend-prepend}

module _ {A : Type 0} (item : List Lexeme → Read A) (separator : ℕ) where
  is_prepended : (x : A) (r : Read (List A)) → (r >>= λ xs after. fits (x ∷ xs) after) ≡ prepend (x ∷ []) r
  is_prepended x (fits xs after) = refl
  is_prepended x (misfit at) = refl

  none_stands : (ts : List Lexeme) → length ts ≤ 0 → stands separator ts ≡ true → ⊥
  none_stands [] short here = cc
  none_stands (t ∷ ts) short here = omega (arith, short)

  at_last : (n : ℕ) (ts : List Lexeme) → stands separator ts ≡ false → chain item separator n ts ≡ fits [] ts
  unfolding chain
  at_last zero ts none = refl
  at_last (suc n) ts none = rw none refl

  at_entry : (n : ℕ) (ts : List Lexeme) (t : Lexeme) (rest : List Lexeme) (x : A) (after : List Lexeme) → length ts ≤ n → stands separator ts ≡ true → mark separator ts ≡ fits t rest → item rest ≡ fits x after
      → length after < length ts → (m : ℕ) × (length after ≤ m) × (chain item separator n ts ≡ prepend (x ∷ []) (chain item separator m after))
  unfolding chain
  at_entry zero ts t rest x after short here marked next less = absurd (none_stands ts short here)
  at_entry (suc n) ts t rest x after short here marked next less = (n, omega (arith, short, less), rw (here, marked, next) (is_prepended x (chain item separator n after)))

  at_no_entry : (n : ℕ) (ts : List Lexeme) (t : Lexeme) (rest : List Lexeme) (at : Option ℕ) → length ts ≤ n → stands separator ts ≡ true → mark separator ts ≡ fits t rest → item rest ≡ misfit at → chain item separator n ts ≡ misfit at
  unfolding chain
  at_no_entry zero ts t rest at short here marked none = absurd (none_stands ts short here)
  at_no_entry (suc n) ts t rest at short here marked none = rw (here, marked, none) refl

  pub first_chained : (ts : List Lexeme) (x : A) (rest : List Lexeme) → item ts ≡ fits x rest → joined_by item separator ts ≡ prepend (x ∷ []) (chain item separator (length rest) rest)
  first_chained ts x rest first = rw first (is_prepended x (chain item separator (length rest) rest))

  module _ (whole : Read (List A)) (xs : List A) (n : ℕ) (ts : List Lexeme) (is : whole ≡ prepend xs (chain item separator n ts)) where
    pub all_chained : stands separator ts ≡ false → whole ≡ fits xs ts
    all_chained none = is ∙ ap (prepend xs) (at_last n ts none) ∙ ap (λ zs. fits zs ts) (append-nil xs)

    pub chained_no_entry : (at : Option ℕ) (t : Lexeme) (rest : List Lexeme) → length ts ≤ n → stands separator ts ≡ true → mark separator ts ≡ fits t rest → item rest ≡ misfit at → whole ≡ misfit at
    chained_no_entry at t rest short here marked none = is ∙ ap (prepend xs) (at_no_entry n ts t rest at short here marked none)

    pub one_chained : (t : Lexeme) (rest : List Lexeme) (x : A) (after : List Lexeme) → length ts ≤ n → stands separator ts ≡ true → mark separator ts ≡ fits t rest → item rest ≡ fits x after → length after < length ts
        → (m : ℕ) × (length after ≤ m) × (whole ≡ prepend (xs ++ x ∷ []) (chain item separator m after))
    one_chained t rest x after short here marked next less =
        let step = at_entry n ts t rest x after short here marked next less in
        (step.0, step.1, is ∙ ap (prepend xs) step.2 ∙ prepend-prepend xs x (chain item separator step.0 after))
