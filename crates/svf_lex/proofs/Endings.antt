-- What a lexer gives for a text is what the whole text says.
use Rattle.std.proofs.Common.{◌≡◌, ◌≢◌, ℕ, List, [], ◌∷◌, ◌++◌, map, Option, Some, None, Result, Ok, Err, unwrap_or, refl, sym, ap, ◌∙◌, subst, ◌⊎◌, inl, inr}
use Rattle.std.proofs.lemmas.List.{append-nil}
use Rattle.std.specs.List.{AllByRecursion}
use Rattle.svf_lex.specs.declared.Kind.{Kind}
use Rattle.svf_lex.specs.declared.Kind.TheVariants as kind
use Rattle.svf_lex.specs.declared.LexFault.{LexFault}
use Rattle.svf_lex.specs.declared.LexFault.TheVariants as fault
use Rattle.svf_lex.specs.Cutting.{Lexeme, Cut, piece, bad, begun_after, ending, items, items_of}
use Rattle.svf_lex.specs.Gaps.{TokensOf, BadAfter}
use Rattle.svf_lex.specs.Lexed.{IsClosed, IsNoSemi, IsOpenFrom, Lexes, whole, unclosed, bad_byte}
use Rattle.svf_lex.specs.Laws.{LexerGives}
use Rattle.svf_lex.proofs.Cuttings.{tokens_cut, bad_cut, each_is_cut}

abbrev Given : Type 0
Given = List (Result Lexeme LexFault)

-- where the statement that is open behind tokens began
abbrev begun_by : Option ℕ → List Lexeme → Option ℕ
begun_by begun [] = begun
begun_by begun (t ∷ ts) = begun_by (begun_after t.kind begun t.start) ts

begun_by-append : (begun : Option ℕ) (ts us : List Lexeme) → begun_by begun (ts ++ us) ≡ begun_by (begun_by begun ts) us
begun_by-append begun [] us = refl
begun_by-append begun (t ∷ ts) us = begun_by-append (begun_after t.kind begun t.start) ts us

items_by : (begun : Option ℕ) (ts : List Lexeme) (cuts : List Cut) → items begun (map piece ts ++ cuts) ≡ map Ok ts ++ items (begun_by begun ts) cuts
items_by begun [] cuts = refl
items_by begun (t ∷ ts) cuts = ap (λ (xs : Given). Ok t ∷ xs) (items_by (begun_after t.kind begun t.start) ts cuts)

closed_by : (ts : List Lexeme) → IsClosed ts → begun_by None ts ≡ None
closed_by ts (inl none) = ap (begun_by None) none
closed_by ts (inr (before, last, is, semi)) =
    ap (begun_by None) is ∙ begun_by-append None before (last ∷ []) ∙ ap (λ (k : Kind). begun_after k (begun_by None before) last.start) semi

goes_on : (k : Kind) (begun : Option ℕ) (start : ℕ) → k ≢ kind.Semi → begun_after k begun start ≡ Some (unwrap_or begun start)
goes_on kind.Run begun start other = refl
goes_on kind.Open begun start other = refl
goes_on kind.Close begun start other = refl
goes_on kind.Semi begun start other = absurd (other refl)

open_stays : (place : ℕ) (ts : List Lexeme) → AllByRecursion IsNoSemi ts → begun_by (Some place) ts ≡ Some place
open_stays place [] all = refl
open_stays place (t ∷ ts) all = ap (λ (b : Option ℕ). begun_by b ts) (goes_on t.kind (Some place) t.start all.0) ∙ open_stays place ts all.1

open_by : (ts : List Lexeme) (place : ℕ) → IsOpenFrom ts place → begun_by None ts ≡ Some place
open_by ts place o =
    ap (begun_by None) o.whole ∙ begun_by-append None o.closed (o.first ∷ o.more) ∙ ap (λ (b : Option ℕ). begun_by b (o.first ∷ o.more)) (closed_by o.closed o.is_closed)
    ∙ ap (λ (b : Option ℕ). begun_by b o.more) (goes_on o.first.kind None o.first.start o.no_semi.0) ∙ open_stays o.first.start o.more o.no_semi.1
    ∙ ap (λ (p : ℕ). Some p) (sym o.starts)

-- what a lexer gives at tokens and then nothing
tokens_give : (text : List ℕ) (ts : List Lexeme) (begun : Option ℕ) → TokensOf text ts → begun_by None ts ≡ begun → items_of text ≡ map Ok ts ++ ending begun
tokens_give text ts begun t by =
    ap (items None) (tokens_cut text ts t ∙ sym (append-nil (map piece ts))) ∙ items_by None ts [] ∙ ap (λ (b : Option ℕ). map Ok ts ++ ending b) by

bad_gives : (text : List ℕ) (ts : List Lexeme) (place : ℕ) → BadAfter text ts place → items_of text ≡ map Ok ts ++ Err (fault.BadByte place) ∷ []
bad_gives text ts place b = ap (items None) (bad_cut text ts place b) ∙ items_by None ts (bad place ∷ [])

gives : (text : List ℕ) (given : Given) → Lexes text given → items_of text ≡ given
gives text given (whole ts t closed is) = tokens_give text ts None t (closed_by ts closed) ∙ append-nil (map Ok ts) ∙ sym is
gives text given (unclosed ts place t open_from is) = tokens_give text ts (Some place) t (open_by ts place open_from) ∙ sym is
gives text given (bad_byte ts place b is) = bad_gives text ts place b ∙ sym is

-- ---- tokens are closed or open

abbrev Standing : List Lexeme → Type 0
Standing ts = IsClosed ts ⊎ ((place : ℕ) × IsOpenFrom ts place)

is_semi : (k : Kind) → (k ≡ kind.Semi) ⊎ (k ≢ kind.Semi)
is_semi kind.Run = inr (λ e. cc)
is_semi kind.Open = inr (λ e. cc)
is_semi kind.Close = inr (λ e. cc)
is_semi kind.Semi = inl refl

-- tokens before which one more stands
more_closed : (t : Lexeme) (ts : List Lexeme) → (t.kind ≡ kind.Semi) ⊎ (t.kind ≢ kind.Semi) → IsClosed ts → Standing (t ∷ ts)
more_closed t ts (inl semi) (inl none) = inl (inr ([], t, ap (λ (us : List Lexeme). t ∷ us) none, semi))
more_closed t ts (inr other) (inl none) =
    inr (t.start, record { closed = []; first = t; more = []; whole = ap (λ (us : List Lexeme). t ∷ us) none; is_closed = inl refl; no_semi = (other, tt); starts = refl })
more_closed t ts either (inr (before, last, is, semi)) = inl (inr (t ∷ before, last, ap (λ (us : List Lexeme). t ∷ us) is, semi))

more_open : (t : Lexeme) (ts : List Lexeme) (place : ℕ) → (t.kind ≡ kind.Semi) ⊎ (t.kind ≢ kind.Semi) → (o : IsOpenFrom ts place) → IsClosed o.closed → Standing (t ∷ ts)
more_open t ts place (inl semi) o (inl none) =
    let all : ts ≡ o.first ∷ o.more = o.whole ∙ ap (λ (us : List Lexeme). us ++ o.first ∷ o.more) none in
    inr (place, record { closed = t ∷ []; first = o.first; more = o.more; whole = ap (λ (us : List Lexeme). t ∷ us) all; is_closed = inr ([], t, refl, semi); no_semi = o.no_semi; starts = o.starts })
more_open t ts place (inr other) o (inl none) =
    let all : ts ≡ o.first ∷ o.more = o.whole ∙ ap (λ (us : List Lexeme). us ++ o.first ∷ o.more) none in
    inr (t.start, record { closed = []; first = t; more = o.first ∷ o.more; whole = ap (λ (us : List Lexeme). t ∷ us) all; is_closed = inl refl; no_semi = (other, o.no_semi); starts = refl })
more_open t ts place either o (inr (before, last, is, semi)) =
    inr (place, record { closed = t ∷ o.closed; first = o.first; more = o.more; whole = ap (λ (us : List Lexeme). t ∷ us) o.whole; is_closed = inr (t ∷ before, last, ap (λ (us : List Lexeme). t ∷ us) is, semi); no_semi = o.no_semi; starts = o.starts })

more_standing : (t : Lexeme) (ts : List Lexeme) → Standing ts → Standing (t ∷ ts)
more_standing t ts (inl closed) = more_closed t ts (is_semi t.kind) closed
more_standing t ts (inr (place, o)) = more_open t ts place (is_semi t.kind) o o.is_closed

standing : (ts : List Lexeme) → Standing ts
standing [] = inl (inl refl)
standing (t ∷ ts) = more_standing t ts (standing ts)

given_tokens : (text : List ℕ) (ts : List Lexeme) → TokensOf text ts → Standing ts → (given : Given) × Lexes text given
given_tokens text ts t (inl closed) = (map Ok ts, whole ts t closed refl)
given_tokens text ts t (inr (place, o)) = (map Ok ts ++ Err (fault.Unclosed place) ∷ [], unclosed ts place t o refl)

given_each : (text : List ℕ) → ((ts : List Lexeme) × TokensOf text ts) ⊎ ((ts : List Lexeme) × (place : ℕ) × BadAfter text ts place) → (given : Given) × Lexes text given
given_each text (inl (ts, t)) = given_tokens text ts t (standing ts)
given_each text (inr (ts, place, b)) = (map Ok ts ++ Err (fault.BadByte place) ∷ [], bad_byte ts place b refl)

-- each text lexes to something
pub each_lexes : (text : List ℕ) → Lexes text (items_of text)
each_lexes text = let g = given_each text (each_is_cut text) in subst (Lexes text) (sym (gives text g.0 g.1)) g.1

pub lexer_gives : LexerGives
lexer_gives text given = (gives text given, λ is. subst (Lexes text) is (each_lexes text))
