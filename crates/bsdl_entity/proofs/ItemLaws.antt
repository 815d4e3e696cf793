-- Items, one item more.
use Rattle.std.proofs.Common.{◌≡◌, ℕ, zero, suc, ◌≤◌, ◌<◌, Bool, true, false, List, [], ◌∷◌, ◌++◌, length, refl, sym, ap, subst, ◌∙◌, Option, None, Some, arith}
use Rattle.std.specs.Option.{option_or}
use Rattle.std.proofs.lemmas.List.{append-nil}
use Rattle.std.specs.Prelude.{codes}
use Rattle.bsdl_text.specs.Cutting.{Lexeme}
use Rattle.bsdl_text.specs.Reading.{Read, fits, misfit, ◌>>=◌, refused_at}
use Rattle.bsdl_text.proofs.ListLaws.{prepend, prepend-prepend, stops_where}
use Rattle.bsdl_text.specs.View.{Stops}
use Rattle.bsdl_text.specs.declared.reading.Stop.{Stop}
use Rattle.bsdl_values.specs.InstructionValues.{begins}
use Rattle.bsdl_values.specs.View.{judged}
use Rattle.bsdl_entity.specs.Entity.{Given, and_given, item, items}
use Rattle.bsdl_entity.specs.Stopping.{StopsBehind}
use Rattle.bsdl_entity.proofs.StopLaws.{stops_judged}

-- none or one
abbrev pub at_most_one : Option Given → List Given
at_most_one None = []
at_most_one (Some g) = g ∷ []

is_prepended : (o : Option Given) (r : Read (List Given)) → (r >>= λ gs after. fits (and_given o gs) after) ≡ prepend (at_most_one o) r
is_prepended None (fits gs after) = refl
is_prepended None (misfit at) = refl
is_prepended (Some g) (fits gs after) = refl
is_prepended (Some g) (misfit at) = refl

prepended : (xs : List Given) (o : Option Given) (r : Read (List Given)) → prepend xs (prepend (at_most_one o) r) ≡ prepend (xs ++ at_most_one o) r
prepended xs None (fits gs after) = ap (λ ys. fits (ys ++ gs) after) (sym (append-nil xs))
prepended xs None (misfit at) = refl
prepended xs (Some g) r = prepend-prepend xs g r

judged_behind : (u : Option ℕ) (xs : List Given) (r : Read (List Given)) → prepend xs (judged u r) ≡ judged u (prepend xs r)
judged_behind None xs r = refl
judged_behind (Some place) xs r = refl

judged_twice : (fu u : Option ℕ) (r : Read (List Given)) → judged fu (judged u r) ≡ judged (option_or fu u) r
judged_twice None u r = refl
judged_twice (Some place) u r = refl

module _ (is_port : List ℕ → Bool) where
  at_end : (n : ℕ) (ts : List Lexeme) → begins (codes "END") ts ≡ true → items is_port n ts ≡ fits [] ts
  unfolding items
  at_end zero ts end = rw end refl
  at_end (suc n) ts end = rw end refl

  at_nothing : (ts : List Lexeme) (at : Option ℕ) → length ts ≤ 0 → item is_port ts ≡ misfit at → refused_at {A = List Given} ts ≡ misfit at
  at_nothing [] at short none = cc
  at_nothing (t ∷ ts) at short none = absurd (omega arith)

  at_misfit : (n : ℕ) (ts : List Lexeme) (at : Option ℕ) → length ts ≤ n → begins (codes "END") ts ≡ false → item is_port ts ≡ misfit at → items is_port n ts ≡ misfit at
  unfolding items
  at_misfit zero ts at short more none = rw more (at_nothing ts at short none)
  at_misfit (suc n) ts at short more none = rw (more, none) refl

  at_item : (n : ℕ) (ts : List Lexeme) (o : Option Given) (rest : List Lexeme) → length ts ≤ n → begins (codes "END") ts ≡ false → item is_port ts ≡ fits o rest → length rest < length ts
      → (m : ℕ) × (length rest ≤ m) × (items is_port n ts ≡ prepend (at_most_one o) (items is_port m rest))
  unfolding items
  at_item zero ts o rest short more here less = absurd (omega (arith, short, less))
  at_item (suc n) ts o rest short more here less = (n, omega (arith, short, less), rw (more, here) (is_prepended o (items is_port n rest)))

  -- one that is judged
  judged_item : (n : ℕ) (ts : List Lexeme) (u : Option ℕ) (o : Option Given) (rest : List Lexeme) → length ts ≤ n → begins (codes "END") ts ≡ false → item is_port ts ≡ judged u (fits o rest) → length rest < length ts
      → (m : ℕ) × (length rest ≤ m) × (items is_port n ts ≡ judged u (prepend (at_most_one o) (items is_port m rest)))
  judged_item n ts None o rest short more here less = at_item n ts o rest short more here less
  judged_item n ts (Some place) o rest short more here less = (length rest, omega arith, at_misfit n ts (Some place) short more here)

  module _ (whole : Read (List Given)) (fu : Option ℕ) (xs : List Given) (n : ℕ) (ts : List Lexeme) (is : whole ≡ judged fu (prepend xs (items is_port n ts))) where
    pub all_items : begins (codes "END") ts ≡ true → whole ≡ judged fu (fits xs ts)
    all_items end = is ∙ ap (λ r. judged fu (prepend xs r)) (at_end n ts end) ∙ ap (λ ys. judged fu (fits ys ts)) (append-nil xs)

    -- where an item stops, the whole does, once the texts before are judged
    pub no_item : (s found : Stop) → length ts ≤ n → begins (codes "END") ts ≡ false → Stops s (item is_port ts) → StopsBehind fu s found → Stops found whole
    no_item s found short more none behind =
        subst (λ (r : Read (List Given)). Stops found r) (sym is) (stops_judged fu s found (prepend xs (items is_port n ts)) behind
        (stops_where s (item is_port ts) (prepend xs (items is_port n ts)) none (λ at none. ap (prepend xs) (at_misfit n ts at short more none))))

    pub one_item : (u : Option ℕ) (o : Option Given) (rest : List Lexeme) → length ts ≤ n → begins (codes "END") ts ≡ false → item is_port ts ≡ judged u (fits o rest) → length rest < length ts
        → (m : ℕ) × (length rest ≤ m) × (whole ≡ judged (option_or fu u) (prepend (xs ++ at_most_one o) (items is_port m rest)))
    one_item u o rest short more here less =
        let step = judged_item n ts u o rest short more here less in (
          step.0,
          step.1,
          is ∙ ap (λ r. judged fu (prepend xs r)) step.2 ∙ ap (judged fu) (judged_behind u xs (prepend (at_most_one o) (items is_port step.0 rest)))
              ∙ judged_twice fu u (prepend xs (prepend (at_most_one o) (items is_port step.0 rest))) ∙ ap (judged (option_or fu u)) (prepended xs o (items is_port step.0 rest)),
        )
