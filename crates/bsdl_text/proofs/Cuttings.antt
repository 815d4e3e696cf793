-- The tokens of a text are its cut, and there is one.
use Rattle.std.proofs.Common.{◌≡◌, ℕ, Bool, ◌+◌, List, [], ◌∷◌, ◌++◌, length, map, refl, sym, ap, ◌∙◌, subst, ◌⊎◌, inl, inr, arith}
use Rattle.std.proofs.lemmas.List.{append-nil}
use Rattle.std.specs.List.{flat_map}
use Rattle.bsdl_text.specs.declared.tokens.scan.Front.TheVariants.{Bad}
use Rattle.bsdl_text.specs.Cutting.{Lexeme, Cut, piece, bad, cuts_of}
use Rattle.bsdl_text.specs.Gaps.{bytes_of, Divides, tokens_at, TokensOf, BadAfter, BeginsNothing}
use Rattle.bsdl_text.specs.TokenLaws.{TokensAreCut, BadByteIsCut, EachIsCut, TokensAreOne, BadByteIsOne, NeverBoth}
use Rattle.bsdl_text.proofs.Steps.{cut-nil, cut-cons}
use Rattle.bsdl_text.proofs.Parts.{nothing_stands}
use Rattle.bsdl_text.proofs.RowsOfParts.{divides_cut, Found, found}
use Rattle.token_runs.proofs.OneCutting.{Cutting}
use Rattle.token_runs.proofs.OneCutting as one

pub tokens_cut : (quoted : Bool) (text : List ℕ) (ts : List Lexeme) → TokensOf quoted text ts → cuts_of quoted text ≡ map piece ts
tokens_cut quoted text ts t =
    let made = map piece (tokens_at 0 t.parts) in
    divides_cut quoted 0 t.parts text [] t.divides ∙ ap (λ (cuts : List Cut). made ++ cuts) (cut-nil quoted 0 (0 + length (flat_map bytes_of t.parts))) ∙ append-nil made
    ∙ ap (map piece) (sym t.among)

pub bad_cut : (quoted : Bool) (text : List ℕ) (ts : List Lexeme) (place : ℕ) → BadAfter quoted text ts place → cuts_of quoted text ≡ map piece ts ++ bad place ∷ []
bad_cut quoted text ts place b =
    let made = map piece (tokens_at 0 b.parts) in
    let n = length (flat_map bytes_of b.parts) in
    let there : 0 + n ≡ place = omega (arith, b.there) in
    divides_cut quoted 0 b.parts text (b.byte ∷ b.rest) b.divides
    ∙ ap (λ (cuts : List Cut). made ++ cuts) (cut-cons quoted (0 + n) b.byte b.rest Bad (nothing_stands quoted b.byte b.rest b.nothing))
    ∙ ap (λ (p : ℕ). made ++ bad p ∷ []) there
    ∙ ap (λ (us : List Lexeme). map piece us ++ bad place ∷ []) (sym b.among)

each_by : (quoted : Bool) (text : List ℕ) (f : Found quoted text) (rest : List ℕ) → f.rest ≡ rest → (rest ≡ []) ⊎ ((c : ℕ) × (more : List ℕ) × (rest ≡ c ∷ more) × BeginsNothing quoted c more)
    → ((ts : List Lexeme) × TokensOf quoted text ts) ⊎ ((ts : List Lexeme) × (place : ℕ) × BadAfter quoted text ts place)
each_by quoted text f rest is (inl none) =
    inl (tokens_at 0 f.parts, record { parts = f.parts; divides = subst (Divides quoted f.parts text) (is ∙ none) f.divides; among = refl })
each_by quoted text f rest is (inr (c, more, stands, nothing)) =
    inr (
      tokens_at 0 f.parts,
      length (flat_map bytes_of f.parts),
      record { parts = f.parts; byte = c; rest = more; divides = subst (Divides quoted f.parts text) (is ∙ stands) f.divides; nothing = nothing; among = refl; there = refl },
    )

pub each_is_cut : EachIsCut
each_is_cut quoted text = let f = found quoted text in each_by quoted text f f.rest refl f.ends

-- ---- a cut has one list of tokens

cutting : (quoted : Bool) (text : List ℕ) → Cutting Lexeme Cut piece bad (cuts_of quoted text) (TokensOf quoted text) (BadAfter quoted text)
cutting quoted text = record {
  apart = record { tokens = λ t u e. cc; places = λ p q e. cc; never = λ t p e. cc };
  tokens_cut = tokens_cut quoted text;
  bad_cut = bad_cut quoted text;
  each = each_is_cut quoted text;
}

pub tokens_are_one : TokensAreOne
tokens_are_one quoted text = one.tokens_are_one (cutting quoted text)

pub bad_byte_is_one : BadByteIsOne
bad_byte_is_one quoted text = one.bad_byte_is_one (cutting quoted text)

pub never_both : NeverBoth
never_both quoted text = one.never_both (cutting quoted text)

pub tokens_are_cut : TokensAreCut
tokens_are_cut quoted text ts = (tokens_cut quoted text ts, one.tokens_of (cutting quoted text) ts)

pub bad_byte_is_cut : BadByteIsCut
bad_byte_is_cut quoted text ts p = (bad_cut quoted text ts p, one.bad_of (cutting quoted text) ts p)
