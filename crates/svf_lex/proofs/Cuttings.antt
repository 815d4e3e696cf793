-- The tokens of a text are its cut, and there is one.
use Rattle.std.proofs.Common.{◌≡◌, ℕ, ◌+◌, false, nat_eq, List, [], ◌∷◌, ◌++◌, length, map, refl, sym, ap, ◌∙◌, subst, ◌⊎◌, inl, inr, arith}
use Rattle.std.proofs.lemmas.List.{append-nil}
use Rattle.std.specs.List.{flat_map}
use Rattle.std.proofs.lemmas.Bool.Decides.{nat_tests}
use Rattle.svf_lex.specs.declared.scan.Front.TheVariants.{Bad}
use Rattle.token_runs.specs.Bytes.{is_white}
use Rattle.svf_lex.specs.Bytes.{is_run, is_mark, begins_comment}
use Rattle.svf_lex.specs.Cutting.{Lexeme, Cut, piece, bad, cuts_of, front}
use Rattle.svf_lex.specs.Gaps.{bytes_of, Divides, tokens_at, TokensOf, BadAfter, BeginsNothing}
use Rattle.svf_lex.specs.Laws.{TokensAreCut, BadByteIsCut, EachIsCut, TokensAreOne, BadByteIsOne, NeverBoth}
use Rattle.svf_lex.proofs.Steps.{cut-nil, cut-cons}
use Rattle.svf_lex.proofs.RowsOfParts.{divides_cut, Found, found}
use Rattle.token_runs.proofs.OneCutting.{Cutting}
use Rattle.token_runs.proofs.OneCutting as one

pub tokens_cut : (text : List ℕ) (ts : List Lexeme) → TokensOf text ts → cuts_of text ≡ map piece ts
tokens_cut text ts t =
    let made = map piece (tokens_at 0 t.parts) in
    divides_cut 0 t.parts text [] t.divides ∙ ap (λ (cuts : List Cut). made ++ cuts) (cut-nil 0 (0 + length (flat_map bytes_of t.parts))) ∙ append-nil made
    ∙ ap (map piece) (sym t.among)

nothing_stands : (c : ℕ) (rest : List ℕ) → BeginsNothing c rest → front c rest ≡ Bad
nothing_stands c rest n =
    let no_white : is_white c ≡ false = n.white in
    let no_comment : begins_comment c rest ≡ false = n.comment in
    let no_run : is_run c ≡ false = n.run in
    let no_mark : is_mark c ≡ false = n.mark in
    let no_open : nat_eq c 40 ≡ false = grind (arith, nat_tests) in
    let no_close : nat_eq c 41 ≡ false = grind (arith, nat_tests) in
    let no_semi : nat_eq c 59 ≡ false = grind (arith, nat_tests) in
    rw (no_white, no_comment, no_run, no_open, no_close, no_semi) refl

pub bad_cut : (text : List ℕ) (ts : List Lexeme) (place : ℕ) → BadAfter text ts place → cuts_of text ≡ map piece ts ++ bad place ∷ []
bad_cut text ts place b =
    let made = map piece (tokens_at 0 b.parts) in
    let n = length (flat_map bytes_of b.parts) in
    let there : 0 + n ≡ place = omega (arith, b.there) in
    divides_cut 0 b.parts text (b.byte ∷ b.rest) b.divides
    ∙ ap (λ (cuts : List Cut). made ++ cuts) (cut-cons (0 + n) b.byte b.rest Bad (nothing_stands b.byte b.rest b.nothing))
    ∙ ap (λ (p : ℕ). made ++ bad p ∷ []) there
    ∙ ap (λ (us : List Lexeme). map piece us ++ bad place ∷ []) (sym b.among)

each_by : (text : List ℕ) (f : Found text) (rest : List ℕ) → f.rest ≡ rest → (rest ≡ []) ⊎ ((c : ℕ) × (more : List ℕ) × (rest ≡ c ∷ more) × BeginsNothing c more)
    → ((ts : List Lexeme) × TokensOf text ts) ⊎ ((ts : List Lexeme) × (place : ℕ) × BadAfter text ts place)
each_by text f rest is (inl none) =
    inl (tokens_at 0 f.parts, record { parts = f.parts; divides = subst (Divides f.parts text) (is ∙ none) f.divides; among = refl })
each_by text f rest is (inr (c, more, stands, nothing)) =
    inr (
      tokens_at 0 f.parts,
      length (flat_map bytes_of f.parts),
      record { parts = f.parts; byte = c; rest = more; divides = subst (Divides f.parts text) (is ∙ stands) f.divides; nothing = nothing; among = refl; there = refl },
    )

pub each_is_cut : EachIsCut
each_is_cut text = let f = found text in each_by text f f.rest refl f.ends

-- ---- a cut has one list of tokens

cutting : (text : List ℕ) → Cutting Lexeme Cut piece bad (cuts_of text) (TokensOf text) (BadAfter text)
cutting text = record {
  apart = record { tokens = λ t u e. cc; places = λ p q e. cc; never = λ t p e. cc };
  tokens_cut = tokens_cut text;
  bad_cut = bad_cut text;
  each = each_is_cut text;
}

pub tokens_are_one : TokensAreOne
tokens_are_one text = one.tokens_are_one (cutting text)

pub bad_byte_is_one : BadByteIsOne
bad_byte_is_one text = one.bad_byte_is_one (cutting text)

pub never_both : NeverBoth
never_both text = one.never_both (cutting text)

pub tokens_are_cut : TokensAreCut
tokens_are_cut text ts = (tokens_cut text ts, one.tokens_of (cutting text) ts)

pub bad_byte_is_cut : BadByteIsCut
bad_byte_is_cut text ts p = (bad_cut text ts p, one.bad_of (cutting text) ts p)
