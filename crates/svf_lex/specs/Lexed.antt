-- What a lexer gives for a text, said of the text as a whole.
use Rattle.std.specs.Prelude.{◌≡◌, ◌≢◌, ℕ, ◌+◌, ◌<◌, ◌≤◌, ◌⊎◌, ⊤, List, [], ◌∷◌, ◌++◌, length, take, drop, map, Result}
use Rattle.std.specs.Prelude.{Ok, Err}
use Rattle.std.specs.List.{AllByRecursion}
use Rattle.svf_lex.specs.declared.Kind.TheVariants as kind
use Rattle.svf_lex.specs.declared.LexFault.{LexFault}
use Rattle.svf_lex.specs.declared.LexFault.TheVariants as fault
use Rattle.svf_lex.specs.Cutting.{Lexeme}
use Rattle.svf_lex.specs.Gaps.{TokensOf, BadAfter}

-- no statement is open behind these tokens: there are none, or the last is `;`
abbrev pub IsClosed : List Lexeme → Type 0
IsClosed tokens = (tokens ≡ [])
    ⊎ ((before : List Lexeme) × (last : Lexeme) × (tokens ≡ before ++ last ∷ []) × (last.kind ≡ kind.Semi))

abbrev pub IsNoSemi : Lexeme → Type 0
IsNoSemi t = t.kind ≢ kind.Semi

-- behind the last `;`, or from the first on where there is none, stand tokens, and the first of them starts at this
-- place
pub record IsOpenFrom (tokens : List Lexeme) (place : ℕ) : Type 0 where
  pub closed : List Lexeme
  pub first : Lexeme
  pub more : List Lexeme
  pub whole : tokens ≡ closed ++ first ∷ more
  pub is_closed : IsClosed closed
  pub no_semi : AllByRecursion IsNoSemi (first ∷ more)
  pub starts : place ≡ first.start

-- what a lexer gives: the tokens of a text, and then its fault if it has one
pub data Lexes (text : List ℕ) (given : List (Result Lexeme LexFault)) : Type 0 where
  whole : (tokens : List Lexeme) → TokensOf text tokens → IsClosed tokens → given ≡ map Ok tokens → Lexes text given
  unclosed : (tokens : List Lexeme) (place : ℕ) → TokensOf text tokens → IsOpenFrom tokens place
      → given ≡ map Ok tokens ++ Err (fault.Unclosed place) ∷ [] → Lexes text given
  bad_byte : (tokens : List Lexeme) (place : ℕ) → BadAfter text tokens place
      → given ≡ map Ok tokens ++ Err (fault.BadByte place) ∷ [] → Lexes text given

-- a token is the bytes of the text from its start on
pub record IsSlice (text : List ℕ) (t : Lexeme) : Type 0 where
  pub within : t.start + length t.text ≤ length text
  pub bytes : take (length t.text) (drop t.start text) ≡ t.text

-- the items are slices of the text in rising order, the first from `from` on, and behind a fault is nothing
abbrev pub InOrder : List ℕ → ℕ → List (Result Lexeme LexFault) → Type 0
InOrder text from [] = ⊤
InOrder text from (Ok t ∷ given) = (from ≤ t.start) × (0 < length t.text) × IsSlice text t
    × InOrder text (t.start + length t.text) given
InOrder text from (Err e ∷ given) = given ≡ []
