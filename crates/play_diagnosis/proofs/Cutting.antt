-- A text that is cut at the first byte of a value.
use Rattle.std.proofs.Common.{◌≡◌, ◌<◌, ◌+◌, ◌-◌, ℕ, zero, suc, Bool, true, false, List, [], ◌∷◌, length, take, drop, refl, sym, ap, ◌∙◌, arith}
use Rattle.std.specs.Prelude.{slice_index}
use Rattle.std.specs.List.{onto_first, slice_split}
use Rattle.std.proofs.lemmas.List.Splits.{slice_split-cons_no, slice_split-cons_yes}

is-false : (b : Bool) → (b ≡ true → ⊥) → b ≡ false
is-false true never = absurd (never refl)
is-false false never = refl

module _ (p : ℕ → Bool) where
  pub cut_at : (text : List ℕ) (at : ℕ) → at < length text → p (slice_index text at) ≡ true → ((k : ℕ) → k < at → p (slice_index text k) ≡ true → ⊥)
      → slice_split p text ≡ take at text ∷ slice_split p (drop (suc at) text)
  cut_at [] at inside is before = absurd (omega arith)
  cut_at (x ∷ xs) zero inside is before = slice_split-cons_yes p x xs is
  cut_at (x ∷ xs) (suc at) inside is before =
      slice_split-cons_no p x xs (is-false (p x) (before zero (omega arith)))
      ∙ ap (onto_first x) (cut_at xs at (omega (arith, inside)) is (λ k below. before (suc k) (omega (arith, below))))

  pub cut_nowhere : (text : List ℕ) → ((k : ℕ) → k < length text → p (slice_index text k) ≡ true → ⊥) → slice_split p text ≡ text ∷ []
  cut_nowhere [] never = refl
  cut_nowhere (x ∷ xs) never =
      slice_split-cons_no p x xs (is-false (p x) (never zero (omega arith)))
      ∙ ap (onto_first x) (cut_nowhere xs (λ k below. never (suc k) (omega (arith, below))))

pub rest_is : (n : ℕ) (text : List ℕ) → take (length text - n) (drop n text) ≡ drop n text
rest_is n text = take-whole (drop n text) (length text - n) (length-dropped n text)
  where
    length-dropped : (n : ℕ) (xs : List ℕ) → length (drop n xs) ≡ length xs - n
    length-dropped zero xs = omega arith
    length-dropped (suc n) [] = omega arith
    length-dropped (suc n) (x ∷ xs) = omega (arith, length-dropped n xs)

    take-whole : (xs : List ℕ) (m : ℕ) → length xs ≡ m → take m xs ≡ xs
    take-whole [] zero e = refl
    take-whole [] (suc m) e = refl
    take-whole (x ∷ xs) zero e = absurd (omega (arith, e))
    take-whole (x ∷ xs) (suc m) e = ap (λ (l : List ℕ). x ∷ l) (take-whole xs m (omega (arith, e)))

pub cut_before : (p : ℕ → Bool) (text : List ℕ) (at : ℕ) → at < length text → p (slice_index text at) ≡ true → ((k : ℕ) → k < at → p (slice_index text k) ≡ true → ⊥)
    → slice_split p text ≡ take at text ∷ slice_split p (take (length text - (at + 1)) (drop (at + 1) text))
cut_before p text at inside is before =
    let next : suc at ≡ at + 1 = omega arith in
    cut_at p text at inside is before
    ∙ ap (λ (n : ℕ). take at text ∷ slice_split p (drop n text)) next
    ∙ ap (λ (rest : List ℕ). take at text ∷ slice_split p rest) (sym (rest_is (at + 1) text))
