-- Tokens that are passed over, and brackets, are read as they are written.
use Rattle.std.proofs.Common.{◌≡◌, ℕ, zero, suc, Bool, true, false, cond, List, [], ◌∷◌, ◌++◌, refl, sym, ap, subst, ◌∙◌, append_assoc, arith}
use Rattle.std.specs.Prelude.{pred, ◌==◌}
use Rattle.std.specs.List.{AllByRecursion}
use Rattle.std.proofs.lemmas.Bool.Decides.{nat_tests}
use Rattle.bsdl_text.specs.Cutting.{Lexeme}
use Rattle.bsdl_text.specs.Marks.{opening, closing, semi}
use Rattle.bsdl_text.specs.Reading.{Read, fits, mark, is_mark_of}
use Rattle.bsdl_values.specs.Passing.{brackets, past_closing, past_semi}
use Rattle.worked_examples.specs.Lists.{IsMark}
use Rattle.worked_examples.specs.Values.{Matches, none, other, pair, IsInBrackets}
use Rattle.worked_examples.specs.Entity.{IsNoSemi, IsPassedOver}
use Rattle.worked_examples.proofs.Steps.{Found, Finds, bound, same_read, mark_found, mark_is, is_mark}
use Rattle.worked_examples.proofs.PortReads.{other_mark}

-- a mark is told by its test
no_mark : (c : ℕ) (t : Lexeme) → is_mark_of c t ≡ false → ¬ IsMark c t
no_mark c t e h = let f : true ≡ false = sym (mark_is c t h) ∙ e in cc

not_marked_by : (c : ℕ) (t : Lexeme) (b : Bool) → ¬ IsMark c t → is_mark_of c t ≡ b → b ≡ false
not_marked_by c t false never e = refl
not_marked_by c t true never e = absurd (never (is_mark c t e))

not_marked : (c : ℕ) (t : Lexeme) → ¬ IsMark c t → is_mark_of c t ≡ false
not_marked c t never = not_marked_by c t (is_mark_of c t) never refl

-- ---- up to `;`

-- which says nothing but that it was there
abbrev pub Passed : Bool → List Lexeme → Type 0
Passed b ts = IsPassedOver ts

semi_by : (t : Lexeme) (ts : List Lexeme) (test b : Bool) (rest : List Lexeme) → is_mark_of semi t ≡ test → cond test (fits true ts) (past_semi ts) ≡ fits b rest → (past_semi ts ≡ fits b rest → Found Passed b ts rest)
    → Found Passed b (t ∷ ts) rest
semi_by t ts true b rest is e again =
    let s = same_read true b ts rest e in
    record { front = t ∷ []; split = ap (λ (us : List Lexeme). t ∷ us) s.1; is = ([], t, refl, tt, is_mark semi t is) }
semi_by t ts false b rest is e again =
    let f = again e in
    let p = f.is in
    record { front = t ∷ f.front; split = ap (λ (us : List Lexeme). t ∷ us) f.split; is = (t ∷ p.0, p.1, ap (λ (us : List Lexeme). t ∷ us) p.2, (no_mark semi t is, p.3), p.4) }

pub semi_found : Finds past_semi Passed
unfolding past_semi
semi_found [] b rest e = absurd cc
semi_found (t ∷ ts) b rest e = semi_by t ts (is_mark_of semi t) b rest refl e (semi_found ts b rest)

before_semi : (front : List Lexeme) (end : Lexeme) (rest : List Lexeme) → AllByRecursion IsNoSemi front → IsMark semi end → past_semi (front ++ end ∷ rest) ≡ fits true rest
unfolding past_semi
before_semi [] end rest all h = rw (mark_is semi end h) refl
before_semi (t ∷ front) end rest all h = rw (not_marked semi t all.0, before_semi front end rest all.1 h) refl

pub semi_read : (front rest : List Lexeme) → IsPassedOver front → past_semi (front ++ rest) ≡ fits true rest
semi_read front rest h = ap (λ (us : List Lexeme). past_semi (us ++ rest)) h.2 ∙ ap past_semi (append_assoc h.0 (h.1 ∷ []) rest) ∙ before_semi h.0 h.1 rest h.3 h.4

-- ---- brackets

some_open : (n : ℕ) → (suc n == 0) ≡ false
some_open n = grind (arith, nat_tests)

-- tokens with matching brackets, up to the bracket that closes, with `n` open within
abbrev Closes : ℕ → List Lexeme → Type 0
Closes zero ts = (within : List Lexeme) × (closer : Lexeme) × (ts ≡ within ++ closer ∷ []) × Matches within × IsMark closing closer
Closes (suc n) ts = (within : List Lexeme) × (closer : Lexeme) × (more : List Lexeme) × (ts ≡ within ++ closer ∷ more) × Matches within × IsMark closing closer × Closes n more

abbrev ClosesAt : ℕ → Bool → List Lexeme → Type 0
ClosesAt n b ts = Closes n ts

one_other : (n : ℕ) (t : Lexeme) (ts : List Lexeme) → ¬ IsMark opening t → ¬ IsMark closing t → Closes n ts → Closes n (t ∷ ts)
one_other zero t ts a b h = (t ∷ h.0, h.1, ap (λ (us : List Lexeme). t ∷ us) h.2, other t h.0 a b h.3, h.4)
one_other (suc n) t ts a b h = (t ∷ h.0, h.1, h.2, ap (λ (us : List Lexeme). t ∷ us) h.3, other t h.0 a b h.4, h.5, h.6)

-- an opening bracket before a part, its closing bracket and another part
opened : (t closer : Lexeme) (within more front tail ts : List Lexeme) → ts ≡ within ++ closer ∷ more → more ≡ front ++ tail → t ∷ ts ≡ (t ∷ (within ++ closer ∷ front)) ++ tail
opened t closer within more front tail ts a b =
    ap (λ (us : List Lexeme). t ∷ us) (a ∙ ap (λ (us : List Lexeme). within ++ closer ∷ us) b ∙ sym (append_assoc within (closer ∷ front) tail))

one_open : (n : ℕ) (t : Lexeme) (ts : List Lexeme) → IsMark opening t → Closes (suc n) ts → Closes n (t ∷ ts)
one_open zero t ts mark h =
    let m = h.6 in
    (t ∷ (h.0 ++ h.1 ∷ m.0), m.1, opened t h.1 h.0 h.2 m.0 (m.1 ∷ []) ts h.3 m.2, pair t h.1 h.0 m.0 mark h.4 h.5 m.3, m.4)
one_open (suc n) t ts mark h =
    let m = h.6 in
    (t ∷ (h.0 ++ h.1 ∷ m.0), m.1, m.2, opened t h.1 h.0 h.2 m.0 (m.1 ∷ m.2) ts h.3 m.3, pair t h.1 h.0 m.0 mark h.4 h.5 m.4, m.5, m.6)

abbrev behind_token : ℕ → Lexeme → List Lexeme → Read Bool
behind_token n t ts =
    cond (is_mark_of closing t) (cond (n == 0) (fits true ts) (past_closing (pred n) ts)) (cond (is_mark_of opening t) (past_closing (suc n) ts) (past_closing n ts))

closed_by : (n : ℕ) (t : Lexeme) (ts : List Lexeme) (b : Bool) (rest : List Lexeme) → IsMark closing t → cond (n == 0) (fits true ts) (past_closing (pred n) ts) ≡ fits b rest
    → ((m : ℕ) → past_closing m ts ≡ fits b rest → Found (ClosesAt m) b ts rest) → Found (ClosesAt n) b (t ∷ ts) rest
closed_by zero t ts b rest shut e again =
    let s = same_read true b ts rest e in
    record { front = t ∷ []; split = ap (λ (us : List Lexeme). t ∷ us) s.1; is = ([], t, refl, none, shut) }
closed_by (suc n) t ts b rest shut e again =
    let some : (suc n == 0) ≡ false = some_open n in
    let f = again n (rw some at e) in
    record { front = t ∷ f.front; split = ap (λ (us : List Lexeme). t ∷ us) f.split; is = ([], t, f.front, refl, none, shut, f.is) }

other_by : (n : ℕ) (t : Lexeme) (ts : List Lexeme) (test b : Bool) (rest : List Lexeme) → is_mark_of closing t ≡ false → is_mark_of opening t ≡ test → cond test (past_closing (suc n) ts) (past_closing n ts) ≡ fits b rest
    → ((m : ℕ) → past_closing m ts ≡ fits b rest → Found (ClosesAt m) b ts rest) → Found (ClosesAt n) b (t ∷ ts) rest
other_by n t ts true b rest open_on is e again =
    let f = again (suc n) e in
    record { front = t ∷ f.front; split = ap (λ (us : List Lexeme). t ∷ us) f.split; is = one_open n t f.front (is_mark opening t is) f.is }
other_by n t ts false b rest open_on is e again =
    let f = again n e in
    record { front = t ∷ f.front; split = ap (λ (us : List Lexeme). t ∷ us) f.split; is = one_other n t f.front (no_mark opening t is) (no_mark closing t open_on) f.is }

token_by : (n : ℕ) (t : Lexeme) (ts : List Lexeme) (test b : Bool) (rest : List Lexeme) → is_mark_of closing t ≡ test
    → cond test (cond (n == 0) (fits true ts) (past_closing (pred n) ts)) (cond (is_mark_of opening t) (past_closing (suc n) ts) (past_closing n ts)) ≡ fits b rest
    → ((m : ℕ) → past_closing m ts ≡ fits b rest → Found (ClosesAt m) b ts rest) → Found (ClosesAt n) b (t ∷ ts) rest
token_by n t ts true b rest is e again = closed_by n t ts b rest (is_mark closing t is) e again
token_by n t ts false b rest is e again = other_by n t ts (is_mark_of opening t) b rest is refl e again

closing_found : (ts : List Lexeme) (n : ℕ) (b : Bool) (rest : List Lexeme) → past_closing n ts ≡ fits b rest → Found (ClosesAt n) b ts rest
unfolding past_closing
closing_found [] n b rest e = absurd cc
closing_found (t ∷ ts) n b rest e = token_by n t ts (is_mark_of closing t) b rest refl e (λ m. closing_found ts m b rest)

-- brackets, which say nothing
abbrev pub Bracketed : Bool → List Lexeme → Type 0
Bracketed b ts = IsInBrackets ts

pub brackets_found : Finds brackets Bracketed
brackets_found ts b rest e =
    let o = bound (mark opening ts) (λ m a. past_closing 0 a) b rest e in
    let m = mark_found opening ts o.x o.more o.first in
    let f = closing_found o.more 0 b rest o.next in
    let p = f.is in
    record {
      front = o.x ∷ f.front;
      split = m.0 ∙ ap (λ (us : List Lexeme). o.x ∷ us) f.split;
      is = (o.x, p.1, p.0, ap (λ (us : List Lexeme). o.x ∷ us) p.2, m.1, p.3, p.4);
    }

matches_read : {ts : List Lexeme} → Matches ts → (n : ℕ) (rest : List Lexeme) → past_closing n (ts ++ rest) ≡ past_closing n rest
unfolding past_closing
matches_read none n rest = refl
matches_read (other t ts a b m) n rest = rw (not_marked closing t b, not_marked opening t a) (matches_read m n rest)
matches_read (pair opener closer ts us a m b k) n rest =
    let some : (suc n == 0) ≡ false = some_open n in
    let inner : past_closing (suc n) ((ts ++ closer ∷ us) ++ rest) ≡ past_closing (suc n) (closer ∷ (us ++ rest)) =
    ap (past_closing (suc n)) (append_assoc ts (closer ∷ us) rest) ∙ matches_read m (suc n) (closer ∷ (us ++ rest)) in
    let shut : past_closing (suc n) (closer ∷ (us ++ rest)) ≡ past_closing n (us ++ rest) = rw (mark_is closing closer b, some) refl in
    rw (other_mark opening closing opener a refl, mark_is opening opener a) (inner ∙ shut ∙ matches_read k n rest)

pub brackets_read : (front rest : List Lexeme) → IsInBrackets front → brackets (front ++ rest) ≡ fits true rest
unfolding past_closing
brackets_read front rest h =
    let shut : past_closing 0 (h.1 ∷ rest) ≡ fits true rest = rw (mark_is closing h.1 h.6) refl in
    let within : past_closing 0 ((h.2 ++ h.1 ∷ []) ++ rest) ≡ fits true rest =
    ap (past_closing 0) (append_assoc h.2 (h.1 ∷ []) rest) ∙ matches_read h.5 0 (h.1 ∷ rest) ∙ shut in
    subst (λ us. brackets (us ++ rest) ≡ fits true rest) (sym h.3) (rw (mark_is opening h.0 h.4) within)
