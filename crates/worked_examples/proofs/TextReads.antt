-- The tokens of a text, and what a text within quotes says.
use Rattle.std.proofs.Common.{◌≡◌, ℕ, ◌+◌, Bool, true, List, [], ◌∷◌, length, map, Option, Some, None, refl, sym, ap, subst, ◌∙◌}
use Rattle.bsdl_text.specs.declared.tokens.Kind.{Kind}
use Rattle.bsdl_text.specs.declared.tokens.Kind.TheVariants as kind
use Rattle.bsdl_text.specs.Cutting.{Lexeme, Cut, piece, bad, tokens, bad_place, cuts_of}
use Rattle.bsdl_text.specs.Gaps.{Part, white, comment, token, Divides, IsPart, tokens_at, TokensOf}
use Rattle.bsdl_text.proofs.Cuttings.{tokens_are_cut}
use Rattle.bsdl_text.specs.Reading.{Read, fits, misfit, complete, quoted_value}
use Rattle.worked_examples.specs.Lists.{IsToken}
use Rattle.worked_examples.specs.Quoted.{SpellsWithin}
use Rattle.worked_examples.specs.GrammarLaws.{IsReadWithin}
use Rattle.worked_examples.proofs.Steps.{AreTokens}

-- ---- each token of a text that is a word begins with a letter

token_of : (quoted : Bool) (k : Kind) (bytes after : List ℕ) (at : ℕ) → IsPart quoted (token k bytes) after → IsToken (record { kind = k; text = bytes; start = at })
token_of quoted kind.Word bytes after at h is = (h.0, h.1, h.2, h.3)
token_of quoted kind.Number bytes after at h is = absurd cc
token_of quoted kind.Text bytes after at h is = absurd cc
token_of quoted kind.Mark bytes after at h is = absurd cc

tokens_of : (quoted : Bool) (parts : List Part) (at : ℕ) (text rest : List ℕ) → Divides quoted parts text rest → AreTokens (tokens_at at parts)
tokens_of quoted [] at text rest h = tt
tokens_of quoted (white c ∷ parts) at text rest h = tokens_of quoted parts (at + 1) h.0 rest h.3
tokens_of quoted (comment bytes ∷ parts) at text rest h = tokens_of quoted parts (at + length bytes) h.0 rest h.3
tokens_of quoted (token k bytes ∷ parts) at text rest h = (token_of quoted k bytes h.0 at h.2, tokens_of quoted parts (at + length bytes) h.0 rest h.3)

pub text_tokens : (quoted : Bool) (text : List ℕ) (ts : List Lexeme) → TokensOf quoted text ts → AreTokens ts
text_tokens quoted text ts h = subst AreTokens (sym h.among) (tokens_of quoted h.parts 0 text [] h.divides)

-- ---- a cut without a bad byte

no_bad : (cuts : List Cut) → bad_place cuts ≡ None → cuts ≡ map piece (tokens cuts)
no_bad [] e = refl
no_bad (piece t ∷ cuts) e = ap (λ (cs : List Cut). piece t ∷ cs) (no_bad cuts e)
no_bad (bad at ∷ cuts) e = absurd cc

none_bad : (ts : List Lexeme) → bad_place (map piece ts) ≡ None
none_bad [] = refl
none_bad (t ∷ ts) = none_bad ts

all_tokens : (ts : List Lexeme) → tokens (map piece ts) ≡ ts
all_tokens [] = refl
all_tokens (t ∷ ts) = ap (λ (us : List Lexeme). t ∷ us) (all_tokens ts)

-- what a reader of all tokens says of a text
pub record Cuts (quoted : Bool) (text : List ℕ) (ts : List Lexeme) : Type 0 where
  pub whole : bad_place (cuts_of quoted text) ≡ None
  pub are : tokens (cuts_of quoted text) ≡ ts

pub cuts_read : (quoted : Bool) (text : List ℕ) (ts : List Lexeme) → TokensOf quoted text ts → Cuts quoted text ts
cuts_read quoted text ts h =
    let cut = (tokens_are_cut quoted text ts).0 h in
    record { whole = ap bad_place cut ∙ none_bad ts; are = ap tokens cut ∙ all_tokens ts }

pub cuts_found : (quoted : Bool) (text : List ℕ) → bad_place (cuts_of quoted text) ≡ None → TokensOf quoted text (tokens (cuts_of quoted text))
cuts_found quoted text e = (tokens_are_cut quoted text (tokens (cuts_of quoted text))).1 (no_bad (cuts_of quoted text) e)

-- ---- what stands within quotes

-- what a reader says of all tokens is what they are
pub record Exact {A : Type 0} (item : List Lexeme → Read A) (Says : A → List Lexeme → Type 0) : Type 0 where
  pub found : (ts : List Lexeme) (x : A) → item ts ≡ fits x [] → Says x ts
  pub read : (ts : List Lexeme) (x : A) → AreTokens ts → Says x ts → item ts ≡ fits x []

complete_found : {A : Type 0} (o : Option ℕ) (r : Read A) (x : A) → complete o r ≡ Some x → (o ≡ None) × (r ≡ fits x [])
complete_found None (fits y []) x e = (refl, let same : y ≡ x = cc in ap (λ z. fits z []) same)
complete_found None (fits y (t ∷ ts)) x e = absurd cc
complete_found None (misfit at) x e = absurd cc
complete_found (Some place) r x e = absurd cc

module _ {A : Type 0} (item : List Lexeme → Read A) (Says : A → List Lexeme → Type 0) (exact : Exact item Says) where
  pub value_found : (text : List ℕ) (x : A) → quoted_value item text ≡ Some x → SpellsWithin Says x text
  value_found text x e =
      let c = complete_found (bad_place (cuts_of true text)) (item (tokens (cuts_of true text))) x e in
      (tokens (cuts_of true text), cuts_found true text c.0, exact.found (tokens (cuts_of true text)) x c.1)

  pub value_read : (text : List ℕ) (x : A) → SpellsWithin Says x text → quoted_value item text ≡ Some x
  value_read text x h =
      let c = cuts_read true text h.0 h.1 in
      rw (c.whole, c.are, exact.read h.0 x (text_tokens true text h.0 h.1) h.2) refl

  pub within_is_read : IsReadWithin item Says
  within_is_read text x = (value_read text x, value_found text x)
