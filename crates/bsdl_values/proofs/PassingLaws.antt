-- Tokens that are passed over, one token more.
use Rattle.std.proofs.Common.{◌≡◌, ℕ, ◌+◌, ◌-◌, ◌≢◌, zero, suc, true, false, List, [], ◌∷◌, refl, sym, ap, ◌∙◌, None, arith}
use Rattle.std.proofs.lemmas.Bool.Decides.{nat_tests}
use Rattle.bsdl_text.specs.Cutting.{Lexeme}
use Rattle.bsdl_text.specs.Reading.{fits, misfit, stands}
use Rattle.bsdl_values.specs.Passing.{past_closing, past_semi}

pub semi_here : (ts : List Lexeme) (t : Lexeme) (rest : List Lexeme) → ts ≡ t ∷ rest → stands 59 ts ≡ true → past_semi ts ≡ fits true rest
unfolding past_semi
semi_here ts t rest is here = ap past_semi is ∙ (let e : stands 59 (t ∷ rest) ≡ true = ap (stands 59) (sym is) ∙ here in rw e refl)

pub semi_on : (ts : List Lexeme) (t : Lexeme) (rest : List Lexeme) → ts ≡ t ∷ rest → stands 59 ts ≡ false → past_semi ts ≡ past_semi rest
unfolding past_semi
semi_on ts t rest is here = ap past_semi is ∙ (let e : stands 59 (t ∷ rest) ≡ false = ap (stands 59) (sym is) ∙ here in rw e refl)

pub semi_none : (ts : List Lexeme) → ts ≡ [] → past_semi ts ≡ misfit None
unfolding past_semi
semi_none ts is = ap past_semi is

pub closes_here : (ts : List Lexeme) (t : Lexeme) (rest : List Lexeme) → ts ≡ t ∷ rest → stands 41 ts ≡ true → past_closing 0 ts ≡ fits true rest
unfolding past_closing
closes_here ts t rest is here = ap (past_closing 0) is ∙ (let e : stands 41 (t ∷ rest) ≡ true = ap (stands 41) (sym is) ∙ here in rw e refl)

closes_one : (n : ℕ) (ts : List Lexeme) (t : Lexeme) (rest : List Lexeme) → ts ≡ t ∷ rest → stands 41 ts ≡ true → past_closing (suc n) ts ≡ past_closing n rest
unfolding past_closing
closes_one n ts t rest is here = ap (past_closing (suc n)) is ∙ (let e : stands 41 (t ∷ rest) ≡ true = ap (stands 41) (sym is) ∙ here in rw e (grind (arith, nat_tests)))

opens_one : (n : ℕ) (ts : List Lexeme) (t : Lexeme) (rest : List Lexeme) → ts ≡ t ∷ rest → stands 41 ts ≡ false → stands 40 ts ≡ true → past_closing n ts ≡ past_closing (suc n) rest
unfolding past_closing
opens_one n ts t rest is none here =
    ap (past_closing n) is
    ∙ (let d : stands 41 (t ∷ rest) ≡ false = ap (stands 41) (sym is) ∙ none in
    let e : stands 40 (t ∷ rest) ≡ true = ap (stands 40) (sym is) ∙ here in
    rw (d, e) refl)

pub passes_one : (n : ℕ) (ts : List Lexeme) (t : Lexeme) (rest : List Lexeme) → ts ≡ t ∷ rest → stands 41 ts ≡ false → stands 40 ts ≡ false → past_closing n ts ≡ past_closing n rest
unfolding past_closing
passes_one n ts t rest is none neither =
    ap (past_closing n) is
    ∙ (let d : stands 41 (t ∷ rest) ≡ false = ap (stands 41) (sym is) ∙ none in
    let e : stands 40 (t ∷ rest) ≡ false = ap (stands 40) (sym is) ∙ neither in
    rw (d, e) refl)

pub closes_none : (n : ℕ) (ts : List Lexeme) → ts ≡ [] → past_closing n ts ≡ misfit None
unfolding past_closing
closes_none n ts is = ap (past_closing n) is

-- one bracket fewer is open
pub closes_next : (n : ℕ) (ts : List Lexeme) (t : Lexeme) (rest : List Lexeme) → n ≢ 0 → ts ≡ t ∷ rest → stands 41 ts ≡ true → past_closing n ts ≡ past_closing (n - 1) rest
closes_next zero ts t rest some is here = absurd (some refl)
closes_next (suc n) ts t rest some is here =
    let e : suc n - 1 ≡ n = omega arith in
    closes_one n ts t rest is here ∙ ap (λ (k : ℕ). past_closing k rest) (sym e)

pub opens_next : (n : ℕ) (ts : List Lexeme) (t : Lexeme) (rest : List Lexeme) → ts ≡ t ∷ rest → stands 41 ts ≡ false → stands 40 ts ≡ true → past_closing n ts ≡ past_closing (n + 1) rest
opens_next n ts t rest is none here =
    let e : suc n ≡ n + 1 = omega arith in
    opens_one n ts t rest is none here ∙ ap (λ (k : ℕ). past_closing k rest) e
