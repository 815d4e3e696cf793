-- Patterns, one token more.
use Rattle.std.proofs.Common.{◌≡◌, ℕ, true, false, List, [], ◌∷◌, ◌++◌, refl, sym, ap, ◌∙◌}
use Rattle.std.proofs.lemmas.List.{append-nil, append_assoc}
use Rattle.bsdl_text.specs.Cutting.{Lexeme}
use Rattle.bsdl_text.specs.Reading.{Read, fits, misfit, ◌>>=◌}
use Rattle.bsdl_device.specs.Device.{Pattern}
use Rattle.bsdl_values.specs.InstructionValues.{are_digits, pattern_of, digits_on}

-- digits that were read, and then those that stand on
abbrev pub then_on : List ℕ → Read (List ℕ) → Read Pattern
then_on before r = r >>= λ ds rest. fits (pattern_of (before ++ ds)) rest

regrouped : (before text : List ℕ) (r : Read (List ℕ)) → then_on before (r >>= λ ds rest. fits (text ++ ds) rest) ≡ then_on (before ++ text) r
regrouped before text (fits ds rest) = ap (λ xs. fits (pattern_of xs) rest) (sym (append_assoc before text ds))
regrouped before text (misfit at) = refl

pub more_digits : (before : List ℕ) (ts : List Lexeme) (t : Lexeme) (rest : List Lexeme) → ts ≡ t ∷ rest → are_digits t ≡ true → then_on before (digits_on ts) ≡ then_on (before ++ t.text) (digits_on rest)
unfolding digits_on
more_digits before ts t rest stands is = ap (λ us. then_on before (digits_on us)) stands ∙ rw is (regrouped before t.text (digits_on rest))

pub no_digits : (before : List ℕ) (ts : List Lexeme) (t : Lexeme) (rest : List Lexeme) → ts ≡ t ∷ rest → are_digits t ≡ false → then_on before (digits_on ts) ≡ fits (pattern_of before) ts
unfolding digits_on
no_digits before ts t rest stands is =
    ap (λ us. then_on before (digits_on us)) stands ∙ rw is (ap (λ xs. fits (pattern_of xs) (t ∷ rest)) (append-nil before)) ∙ ap (λ us. fits (pattern_of before) us) (sym stands)

pub digits_end : (before : List ℕ) (ts : List Lexeme) → ts ≡ [] → then_on before (digits_on ts) ≡ fits (pattern_of before) ts
unfolding digits_on
digits_end before ts over =
    ap (λ us. then_on before (digits_on us)) over ∙ ap (λ xs. fits (pattern_of xs) []) (append-nil before) ∙ ap (λ us. fits (pattern_of before) us) (sym over)
