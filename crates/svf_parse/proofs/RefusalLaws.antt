-- A text that is refused has that refusal first, and what has it first is refused so.
use Rattle.std.proofs.Common.{◌≡◌, ℕ, suc, ◌+◌, ◌<◌, ◌≤◌, Bool, true, false, cond, nat_lt, List, [], ◌∷◌, length, Some, None, Result, Ok, Err, refl, sym, ap, subst, ◌∙◌, arith, inl, inr, ◌⊎◌, ⊎_elim}
use Rattle.std.specs.Prelude.{IfOk, IfErr, ◌≢◌, map}
use Rattle.std.specs.Global.{Vec}
use Rattle.std.proofs.str.Laws.{order}
use Rattle.std.proofs.lemmas.Bool.Decides.{nat_tests}
use Rattle.svf_lex.specs.declared.LexFault.{LexFault}
use Rattle.svf_lex.specs.Cutting.{items_of}
use Rattle.svf_parse.specs.declared.statement.Statement.{Statement}
use Rattle.svf_words.specs.declared.fault.Code.{Code}
use Rattle.svf_words.specs.declared.fault.Code.TheVariants as code
use Rattle.svf_words.specs.declared.fault.SvfFault.{SvfFault}
use Rattle.svf_words.specs.Words.{Word, Groups, last, group, groups_of}
use Rattle.svf_parse.specs.Judging.{◌>>=◌, Said}
use Rattle.svf_parse.specs.Reading.{lex_code, statement_says, groups_say, text_says, at_statement, within_limit}
use Rattle.svf_parse.specs.Spelling.{Spells, Refuses, EachSpells, closed_by, TextSpells, FirstRefusal, TextRefuses}
use Rattle.svf_parse.specs.Spelling as spelling
use Rattle.svf_parse.specs.View.{said_of, Parses, memory_fault}
use Rattle.svf_parse.proofs.StatementLaws.{spelled, read_again, refused, refused_again}
use Rattle.svf_parse.proofs.TextLaws.{text_found}
use Rattle.svf_lex.proofs.Endings.{each_lexes, lexer_gives}
use Rattle.svf_parse.proofs.Grouping.{long_text, short_text}

-- ---- the first refusal of groups whose first statement has number n

data RefusalFrom (n : ℕ) (groups : Groups) (f : SvfFault) : Type 0 where
  at_end : (gs : List (List Word)) (ws : List Word) (ss : List Said) (e : LexFault) → groups ≡ closed_by gs (last ws (Some e)) → EachSpells gs ss → (n ≤ 200001 → n + length ss ≤ 200001)
      → f ≡ record { statement = n + length ss; code = lex_code e } → RefusalFrom n groups f
  in_words : (gs : List (List Word)) (w : Word) (ws : List Word) (after : Groups) (ss : List Said) (c : Code) → groups ≡ closed_by gs (group (w ∷ ws) after) → EachSpells gs ss → (n ≤ 200001 → n + length ss ≤ 200001)
      → Refuses (w ∷ ws) c → f ≡ record { statement = n + length ss; code = c } → RefusalFrom n groups f
  past_limit : (gs : List (List Word)) (w : Word) (ws : List Word) (after : Groups) (ss : List Said) (s : Said) → groups ≡ closed_by gs (group (w ∷ ws) after) → EachSpells gs ss → (n ≤ 200001 → n + length ss ≡ 200001)
      → Spells (w ∷ ws) s → f ≡ record { statement = n + length ss; code = code.TooLarge } → RefusalFrom n groups f

-- ---- whole texts

fault_of : (n : ℕ) (r : Result Said Code) (f : SvfFault) → at_statement n r ≡ Err f → (c : Code) × (r ≡ Err c) × (record { statement = n; code = c } ≡ f)
fault_of n (Ok s) f e = absurd cc
fault_of n (Err c) f e = (c, refl, cc)

abbrev limited : Bool → Said → Result Said Code
limited b s = cond b (Err code.TooLarge) (Ok s)

-- a refusal within the limit of statements is the words' own, or the limit's
limit_fault : (b : Bool) (r : Result Said Code) (c : Code) → (r >>= λ s. limited b s) ≡ Err c → (r ≡ Err c) ⊎ ((s : Said) × (r ≡ Ok s) × (b ≡ true) × (c ≡ code.TooLarge))
limit_fault b (Err d) c e = inl e
limit_fault true (Ok s) c e = inr (s, refl, refl, cc)
limit_fault false (Ok s) c e = absurd cc

abbrev put_first : Said → Result (List Said) SvfFault → Result (List Said) SvfFault
put_first s says = says >>= λ ss. Ok (s ∷ ss)

then_fault : (r : Result Said SvfFault) (k : Said → Result (List Said) SvfFault) (f : SvfFault) → (r >>= k) ≡ Err f → (r ≡ Err f) ⊎ ((s : Said) × (r ≡ Ok s) × (k s ≡ Err f))
then_fault (Err g) k f e = inl cc
then_fault (Ok s) k f e = inr (s, refl, e)

first_fault : (s : Said) (says : Result (List Said) SvfFault) (f : SvfFault) → put_first s says ≡ Err f → says ≡ Err f
first_fault s (Err g) f e = cc
first_fault s (Ok ss) f e = absurd cc

above : (n : ℕ) → nat_lt 200000 n ≡ true → 200000 < n
above n h = grind (arith, nat_tests)

is_above : (n : ℕ) → 200000 < n → nat_lt 200000 n ≡ true
is_above n h = grind (arith, nat_tests)

below : (n : ℕ) → nat_lt 200000 n ≡ false → n ≤ 200000
below n h = grind (arith, nat_tests)

is_below : (n : ℕ) → n ≤ 200000 → nat_lt 200000 n ≡ false
is_below n h = grind (arith, nat_tests)

abbrev fault_at : ℕ → Code → SvfFault
fault_at n c = record { statement = n; code = c }

-- a group without words before it
after_empty : (n : ℕ) (groups : Groups) (f : SvfFault) → RefusalFrom n groups f → RefusalFrom n (group [] groups) f
after_empty n groups f (at_end gs ws ss e cut each count is) = at_end ([] ∷ gs) ws ss e (ap (group []) cut) each count is
after_empty n groups f (in_words gs w ws after ss c cut each count refuses is) = in_words ([] ∷ gs) w ws after ss c (ap (group []) cut) each count refuses is
after_empty n groups f (past_limit gs w ws after ss s cut each count spells is) = past_limit ([] ∷ gs) w ws after ss s (ap (group []) cut) each count spells is

place : (n k : ℕ) (c : Code) (f : SvfFault) → f ≡ fault_at (n + 1 + k) c → f ≡ fault_at (n + suc k) c
place n k c f is = let e : n + 1 + k ≡ n + suc k = omega arith in is ∙ ap (λ (m : ℕ). fault_at m c) e

-- a statement before it
after_statement : (n : ℕ) (x : Word) (xs : List Word) (t : Said) (groups : Groups) (f : SvfFault) → n ≤ 200000 → Spells (x ∷ xs) t → RefusalFrom (n + 1) groups f → RefusalFrom n (group (x ∷ xs) groups) f
after_statement n x xs t groups f le here (at_end gs ws ss e cut each count is) =
    at_end ((x ∷ xs) ∷ gs) ws (t ∷ ss) e (ap (group (x ∷ xs)) cut) (here, each) (λ _. omega (arith, count (omega arith))) (place n (length ss) (lex_code e) f is)
after_statement n x xs t groups f le here (in_words gs w ws after ss c cut each count refuses is) =
    in_words ((x ∷ xs) ∷ gs) w ws after (t ∷ ss) c (ap (group (x ∷ xs)) cut) (here, each) (λ _. omega (arith, count (omega arith))) refuses (place n (length ss) c f is)
after_statement n x xs t groups f le here (past_limit gs w ws after ss s cut each count spells is) =
    past_limit ((x ∷ xs) ∷ gs) w ws after (t ∷ ss) s (ap (group (x ∷ xs)) cut) (here, each) (λ _. omega (arith, count (omega arith))) spells (place n (length ss) code.TooLarge f is)

at_zero : (n : ℕ) (c : Code) (f : SvfFault) → fault_at n c ≡ f → f ≡ fault_at (n + 0) c
at_zero n c f is = let e : n ≡ n + 0 = omega arith in sym is ∙ ap (λ (m : ℕ). fault_at m c) e

abbrev accepted : List Said → Result (List Said) SvfFault
accepted ss = Ok ss

abbrev refusal : SvfFault → Result (List Said) SvfFault
refusal f = Err f

same_fault : (f g : SvfFault) → refusal f ≡ refusal g → f ≡ g
same_fault f g e = cc

own_fault : (n : ℕ) (w : Word) (ws : List Word) (groups : Groups) (f : SvfFault) (c : Code) → within_limit n (statement_says (w ∷ ws)) ≡ Err c → fault_at n c ≡ f → RefusalFrom n (group (w ∷ ws) groups) f
own_fault n w ws groups f c e is =
    elim (limit_fault (nat_lt 200000 n) (statement_says (w ∷ ws)) c e) [
      | inl mine ↦ in_words [] w ws groups [] c refl tt (λ le. omega arith) (refused w ws c mine) (at_zero n c f is)
      | inr past ↦
          let high : 200000 < n = above n past.2 in
          past_limit [] w ws groups [] past.0 refl tt (λ le. omega arith) (spelled (w ∷ ws) past.0 past.1) (at_zero n code.TooLarge f (ap (fault_at n) (sym past.3) ∙ is))
    ]

numbered_ok : (n : ℕ) (r : Result Said Code) (s : Said) → at_statement n r ≡ Ok s → r ≡ Ok s
numbered_ok n (Ok t) s h = cc
numbered_ok n (Err c) s h = absurd cc

limit_ok : (b : Bool) (r : Result Said Code) (t : Said) → (r >>= λ s. limited b s) ≡ Ok t → (b ≡ false) × (r ≡ Ok t)
limit_ok b (Err c) t h = absurd cc
limit_ok true (Ok s) t h = absurd cc
limit_ok false (Ok s) t h = (refl, h)

groups_refused : (n : ℕ) (groups : Groups) (f : SvfFault) → groups_say n groups ≡ Err f → RefusalFrom n groups f
unfolding groups_say
groups_refused n (last ws None) f h = absurd cc
groups_refused n (last ws (Some e)) f h = at_end [] ws [] e refl tt (λ le. omega arith) (at_zero n (lex_code e) f (same_fault (fault_at n (lex_code e)) f h))
groups_refused n (group [] groups) f h = after_empty n groups f (groups_refused n groups f h)
groups_refused n (group (w ∷ ws) groups) f h =
    let more = groups_refused (n + 1) groups f in
    elim (then_fault (at_statement n (within_limit n (statement_says (w ∷ ws)))) (λ s. put_first s (groups_say (n + 1) groups)) f h) [
      | inl mine ↦ let a = fault_of n (within_limit n (statement_says (w ∷ ws))) f mine in own_fault n w ws groups f a.0 a.1 a.2
      | inr later ↦
          let ok = limit_ok (nat_lt 200000 n) (statement_says (w ∷ ws)) later.0 (numbered_ok n (within_limit n (statement_says (w ∷ ws))) later.0 later.1) in
          after_statement n w ws later.0 groups f (below n ok.0) (spelled (w ∷ ws) later.0 ok.1) (more (first_fault later.0 (groups_say (n + 1) groups) f later.2))
    ]

-- the other way: statements that are spelled are passed
passed : (n : ℕ) (gs : List (List Word)) (ss : List Said) (tail : Groups) (f : SvfFault) → EachSpells gs ss → n + length ss ≤ 200001 → groups_say (n + length ss) tail ≡ Err f → groups_say n (closed_by gs tail) ≡ Err f
unfolding groups_say
passed n [] [] tail f each le h = let e : n + 0 ≡ n = omega arith in subst (λ (m : ℕ). groups_say m tail ≡ Err f) e h
passed n [] (s ∷ ss) tail f each le h = absurd each
passed n ([] ∷ gs) ss tail f each le h = passed n gs ss tail f each le h
passed n ((w ∷ xs) ∷ gs) [] tail f each le h = absurd each
passed n ((w ∷ xs) ∷ gs) (s ∷ ss) tail f each le h =
    let e : n + suc (length ss) ≡ n + 1 + length ss = omega arith in
    let more : groups_say (n + 1) (closed_by gs tail) ≡ Err f = passed (n + 1) gs ss tail f each.1 (omega arith) (subst (λ (m : ℕ). groups_say m tail ≡ Err f) e h) in
    rw (read_again (w ∷ xs) s each.0, is_below n (omega arith), more) refl

refuses_here : (m : ℕ) (w : Word) (ws : List Word) (after : Groups) (c : Code) → Refuses (w ∷ ws) c → groups_say m (group (w ∷ ws) after) ≡ Err (fault_at m c)
unfolding groups_say
refuses_here m w ws after c h = rw (refused_again w ws c h) refl

past_here : (m : ℕ) (w : Word) (ws : List Word) (after : Groups) (s : Said) → Spells (w ∷ ws) s → 200000 < m → groups_say m (group (w ∷ ws) after) ≡ Err (fault_at m code.TooLarge)
unfolding groups_say
past_here m w ws after s h high = rw (read_again (w ∷ ws) s h, is_above m high) refl

ends_here : (m : ℕ) (ws : List Word) (e : LexFault) → groups_say m (last ws (Some e)) ≡ Err (fault_at m (lex_code e))
unfolding groups_say
ends_here m ws e = refl

groups_refused_again : (n : ℕ) (groups : Groups) (f : SvfFault) → n ≤ 200001 → RefusalFrom n groups f → groups_say n groups ≡ Err f
groups_refused_again n groups f le (at_end gs ws ss e cut each count is) =
    ap (groups_say n) cut ∙ passed n gs ss (last ws (Some e)) f each (count le) (ends_here (n + length ss) ws e ∙ ap refusal (sym is))
groups_refused_again n groups f le (in_words gs w ws after ss c cut each count refuses is) =
    ap (groups_say n) cut ∙ passed n gs ss (group (w ∷ ws) after) f each (count le) (refuses_here (n + length ss) w ws after c refuses ∙ ap refusal (sym is))
groups_refused_again n groups f le (past_limit gs w ws after ss s cut each count spells is) =
    ap (groups_say n) cut ∙ passed n gs ss (group (w ∷ ws) after) f each (omega (arith, count le)) (past_here (n + length ss) w ws after s spells (omega (arith, count le)) ∙ ap refusal (sym is))

-- ---- whole texts

numbered_so : (k : ℕ) (c : Code) → fault_at (1 + k) c ≡ fault_at (k + 1) c
numbered_so k c = let e : 1 + k ≡ k + 1 = omega arith in ap (λ (m : ℕ). fault_at m c) e

first_of : (groups : Groups) (f : SvfFault) → RefusalFrom 1 groups f → FirstRefusal groups f
first_of groups f (at_end gs ws ss e cut each count is) = spelling.at_end gs ws ss e cut each (omega (arith, count (omega arith))) (is ∙ numbered_so (length ss) (lex_code e))
first_of groups f (in_words gs w ws after ss c cut each count refuses is) = spelling.in_words gs w ws after ss c cut each (omega (arith, count (omega arith))) refuses (is ∙ numbered_so (length ss) c)
first_of groups f (past_limit gs w ws after ss s cut each count spells is) = spelling.past_limit gs w ws after ss s cut each (omega (arith, count (omega arith))) spells (is ∙ numbered_so (length ss) code.TooLarge)

from_first : (groups : Groups) (f : SvfFault) → FirstRefusal groups f → RefusalFrom 1 groups f
from_first groups f (spelling.at_end gs ws ss e cut each count is) = at_end gs ws ss e cut each (λ _. omega (arith, count)) (is ∙ sym (numbered_so (length ss) (lex_code e)))
from_first groups f (spelling.in_words gs w ws after ss c cut each count refuses is) = in_words gs w ws after ss c cut each (λ _. omega (arith, count)) refuses (is ∙ sym (numbered_so (length ss) c))
from_first groups f (spelling.past_limit gs w ws after ss s cut each count spells is) = past_limit gs w ws after ss s cut each (λ _. omega (arith, count)) spells (is ∙ sym (numbered_so (length ss) code.TooLarge))

pub text_refused : (text : List ℕ) (f : SvfFault) → text_says text ≡ Err f → TextRefuses text f
text_refused text f says =
    ⊎_elim
    (λ long. inl (long, sym (same_fault (fault_at 0 code.TooLarge) f (sym (long_text text long) ∙ says))))
    (λ short. inr (short, items_of text, each_lexes text, first_of (groups_of (items_of text)) f (groups_refused 1 (groups_of (items_of text)) f (sym (short_text text short) ∙ says))))
    (order 16777216 (length text))

pub text_refused_again : (text : List ℕ) (f : SvfFault) → TextRefuses text f → text_says text ≡ Err f
text_refused_again text f (inl long) = long_text text long.0 ∙ ap refusal (sym long.1)
text_refused_again text f (inr short) =
    short_text text short.0 ∙ ap (λ items. groups_say 1 (groups_of items)) ((lexer_gives text short.1).0 short.2)
    ∙ groups_refused_again 1 (groups_of short.1) f (omega arith) (from_first (groups_of short.1) f short.3)

-- ---- what `parse` ensures

ok_or_refused : (ss : List Said) (f : SvfFault) → accepted ss ≡ refusal f → ⊥
ok_or_refused ss f e = cc

pub no_long : (text : List ℕ) (ss : List Said) → text_says text ≡ Ok ss → length text ≤ 16777216
no_long text ss says = ⊎_elim (λ long. absurd (ok_or_refused ss (fault_at 0 code.TooLarge) (sym says ∙ long_text text long))) (λ short. short) (order 16777216 (length text))

pub parse_found : (r : Result (Vec Statement) SvfFault) (text : List ℕ) → Parses r (text_says text) → IfOk r (λ v. TextSpells text (map said_of v.items))
parse_found (Ok v) text h = text_found text (map said_of v.items) (no_long text (map said_of v.items) h) h
parse_found (Err f) text h = tt

pub parse_refused : (r : Result (Vec Statement) SvfFault) (text : List ℕ) → Parses r (text_says text) → IfErr r (λ f. f ≢ memory_fault → TextRefuses text f)
parse_refused (Ok v) text h = tt
parse_refused (Err f) text h = λ other. text_refused text f (h other)
