-- A text that is read is spelled so, and what is spelled so is read.
use Rattle.std.specs.Prelude.{⊤}
use Rattle.std.proofs.Common.{◌≡◌, ℕ, ◌+◌, ◌≤◌, Bool, true, false, cond, nat_lt, List, [], ◌∷◌, length, Option, Some, None, Result, Ok, Err, refl, sym, ap, subst, ◌∙◌, arith, unwrap_or}
use Rattle.std.proofs.lemmas.Bool.Decides.{nat_tests}
use Rattle.svf_lex.specs.declared.Kind.{Kind}
use Rattle.svf_lex.specs.declared.Kind.TheVariants as kind
use Rattle.svf_lex.specs.Cutting.{Cut, piece, bad, items, items_of, cuts_of, begun_after}
use Rattle.svf_words.specs.declared.fault.Code.{Code}
use Rattle.svf_words.specs.declared.fault.Code.TheVariants as code
use Rattle.svf_words.specs.declared.fault.SvfFault.{SvfFault}
use Rattle.svf_words.specs.Words.{Word, Groups, last, group, with_word, with_token, groups_of}
use Rattle.svf_parse.specs.Judging.{◌>>=◌, Said}
use Rattle.svf_parse.specs.Reading.{statement_says, groups_say, text_says, at_statement, within_limit}
use Rattle.svf_parse.specs.Spelling.{Spells, EachSpells, closed_by, TextSpells}
use Rattle.svf_parse.proofs.StatementLaws.{spelled, read_again}
use Rattle.svf_lex.proofs.Endings.{each_lexes, lexer_gives}
use Rattle.svf_parse.proofs.Grouping.{short_text}

-- ---- where no fault ends the text, nothing stands after the last `;`

abbrev EndsWell : Groups → Option ℕ → Type 0
EndsWell (last ws None) begun = (ws ≡ []) × (begun ≡ None)
EndsWell (last ws (Some e)) begun = ⊤
EndsWell (group ws groups) begun = EndsWell groups None

one_word : (w : Word) (groups : Groups) (first : ℕ) (begun : Option ℕ) → EndsWell groups (Some first) → EndsWell (with_word w groups) begun
one_word w (last ws None) first begun h = absurd (let e : Some first ≡ None = h.1 in cc)
one_word w (last ws (Some e)) first begun h = tt
one_word w (group ws groups) first begun h = h

one_token : (k : Kind) (w : Word) (groups : Groups) (begun : Option ℕ) (start : ℕ) → EndsWell groups (begun_after k begun start) → EndsWell (with_token k w groups) begun
one_token kind.Semi w groups begun start h = h
one_token kind.Run w groups begun start h = one_word w groups (unwrap_or begun start) begun h
one_token kind.Open w groups begun start h = one_word w groups (unwrap_or begun start) begun h
one_token kind.Close w groups begun start h = one_word w groups (unwrap_or begun start) begun h

ends_well : (cuts : List Cut) (begun : Option ℕ) → EndsWell (groups_of (items begun cuts)) begun
ends_well [] None = (refl, refl)
ends_well [] (Some first) = tt
ends_well (piece p ∷ cuts) begun = one_token p.kind p.text (groups_of (items (begun_after p.kind begun p.start) cuts)) begun p.start (ends_well cuts (begun_after p.kind begun p.start))
ends_well (bad at ∷ cuts) begun = tt

nothing_left : (gs : List (List Word)) (ws : List Word) (begun : Option ℕ) → EndsWell (closed_by gs (last ws None)) begun → ws ≡ []
nothing_left [] ws begun h = h.0
nothing_left (g ∷ gs) ws begun h = nothing_left gs ws None h

-- ---- steps that gave a value

then_ok : {A B E : Type 0} (r : Result A E) (f : A → Result B E) (y : B) → (r >>= f) ≡ Ok y → (x : A) × (r ≡ Ok x) × (f x ≡ Ok y)
then_ok (Err e) f y h = absurd cc
then_ok (Ok x) f y h = (x, refl, h)

numbered_ok : (n : ℕ) (r : Result Said Code) (s : Said) → at_statement n r ≡ Ok s → r ≡ Ok s
numbered_ok n (Ok t) s h = cc
numbered_ok n (Err c) s h = absurd cc

abbrev limited : Bool → Said → Result Said Code
limited b s = cond b (Err code.TooLarge) (Ok s)

limit_ok : (b : Bool) (s t : Said) → limited b s ≡ Ok t → (b ≡ false) × (s ≡ t)
limit_ok true s t h = absurd cc
limit_ok false s t h = (refl, cc)

within : (n : ℕ) → nat_lt 200000 n ≡ false → n ≤ 200000
within n h = grind (arith, nat_tests)

is_within : (n : ℕ) → n ≤ 200000 → nat_lt 200000 n ≡ false
is_within n h = grind (arith, nat_tests)

abbrev done : List Said → Result (List Said) SvfFault
done ss = Ok ss

ok_is : (ss ts : List Said) → done ss ≡ done ts → ss ≡ ts
ok_is ss ts h = cc

-- what was read of groups
pub record Read (n : ℕ) (groups : Groups) (ss : List Said) : Type 0 where
  pub closed : List (List Word)
  pub open_words : List Word
  pub cut : groups ≡ closed_by closed (last open_words None)
  pub each : EachSpells closed ss
  pub count : n ≤ 200001 → n + length ss ≤ 200001

grouped : (g : List Word) (p q : Groups) → p ≡ q → group g p ≡ group g q
grouped g p q e = ap (group g) e

pub groups_found : (n : ℕ) (groups : Groups) (ss : List Said) → groups_say n groups ≡ Ok ss → Read n groups ss
unfolding groups_say
groups_found n (last ws None) [] h = record { closed = []; open_words = ws; cut = refl; each = tt; count = λ le. omega arith }
groups_found n (last ws None) (s ∷ ss) h = absurd cc
groups_found n (last ws (Some e)) ss h = absurd cc
groups_found n (group [] groups) ss h =
    let r = groups_found n groups ss h in
    record { closed = [] ∷ r.closed; open_words = r.open_words; cut = ap (group []) r.cut; each = r.each; count = r.count }
groups_found n (group (w ∷ ws) groups) ss h =
    let a = then_ok (at_statement n (within_limit n (statement_says (w ∷ ws)))) (λ s. groups_say (n + 1) groups >>= λ ts. Ok (s ∷ ts)) ss h in
    let b = then_ok (groups_say (n + 1) groups) (λ ts. Ok (a.0 ∷ ts)) ss a.2 in
    let l = then_ok (statement_says (w ∷ ws)) (λ s. limited (nat_lt 200000 n) s) a.0 (numbered_ok n (within_limit n (statement_says (w ∷ ws))) a.0 a.1) in
    let g = limit_ok (nat_lt 200000 n) l.0 a.0 l.2 in
    let r = groups_found (n + 1) groups b.0 b.1 in
    let here : Spells (w ∷ ws) a.0 = spelled (w ∷ ws) a.0 (l.1 ∙ ap (λ (s : Said). Ok s) g.1) in
    let made : Read n (group (w ∷ ws) groups) (a.0 ∷ b.0) = record { closed = (w ∷ ws) ∷ r.closed; open_words = r.open_words; cut = grouped (w ∷ ws) groups (closed_by r.closed (last r.open_words None)) r.cut; each = (here, r.each); count = λ le. let m = r.count (omega (arith, within n g.0)) in omega (arith, m) } in
    subst (Read n (group (w ∷ ws) groups)) (ok_is (a.0 ∷ b.0) ss b.2) made

pub groups_again : (n : ℕ) (gs : List (List Word)) (ws : List Word) (ss : List Said) → EachSpells gs ss → n + length ss ≤ 200001 → groups_say n (closed_by gs (last ws None)) ≡ Ok ss
unfolding groups_say
groups_again n [] ws [] each le = refl
groups_again n [] ws (s ∷ ss) each le = absurd each
groups_again n ([] ∷ gs) ws ss each le = groups_again n gs ws ss each le
groups_again n ((w ∷ xs) ∷ gs) ws [] each le = absurd each
groups_again n ((w ∷ xs) ∷ gs) ws (s ∷ ss) each le = rw (read_again (w ∷ xs) s each.0, is_within n (omega arith), groups_again (n + 1) gs ws ss each.1 (omega arith)) refl

-- ---- whole texts

pub text_found : (text : List ℕ) (ss : List Said) → length text ≤ 16777216 → text_says text ≡ Ok ss → TextSpells text ss
text_found text ss short says =
    let r = groups_found 1 (groups_of (items_of text)) ss (sym (short_text text short) ∙ says) in
    let nothing : r.open_words ≡ [] = nothing_left r.closed r.open_words None (subst (λ (p : Groups). EndsWell p None) r.cut (ends_well (cuts_of text) None)) in
    let count = r.count (omega arith) in
    (items_of text, r.closed, short, omega (arith, count), each_lexes text, r.cut ∙ ap (λ (ws : List Word). closed_by r.closed (last ws None)) nothing, r.each)

pub text_again : (text : List ℕ) (ss : List Said) → TextSpells text ss → text_says text ≡ Ok ss
text_again text ss h =
    short_text text h.2 ∙ ap (λ items. groups_say 1 (groups_of items)) ((lexer_gives text h.0).0 h.4) ∙ ap (groups_say 1) h.5 ∙ groups_again 1 h.1 [] ss h.6 (omega (arith, h.3))
