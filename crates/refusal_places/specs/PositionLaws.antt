-- What the start of a statement is, said of the whole text: its tokens are groups, each closed by a `;`. A group
-- without other tokens is no statement.
use Rattle.std.specs.Prelude.{◌≡◌, ◌↔◌, ℕ, suc, Bool, true, false, List, [], ◌∷◌, ◌++◌, length, filter, Some, Result}
use Rattle.std.specs.Prelude.{Ok, Err}
use Rattle.std.specs.List.{flat_map, AllByRecursion}
use Rattle.svf_lex.specs.declared.Kind.TheVariants as kind
use Rattle.svf_lex.specs.declared.LexFault.{LexFault}
use Rattle.svf_lex.specs.Cutting.{Lexeme}
use Rattle.svf_lex.specs.Lexed.{Lexes, IsNoSemi}
use Rattle.output_words.specs.declared.lines.Position.{Position}
use Rattle.refusal_places.specs.Positions.{position_at}
use Rattle.refusal_places.specs.Starts.{statement_position}

-- the tokens before a text's fault, or to its end
abbrev pub tokens_of : List (Result Lexeme LexFault) → List Lexeme
tokens_of [] = []
tokens_of (Err e ∷ items) = []
tokens_of (Ok t ∷ items) = t ∷ tokens_of items

-- tokens and the `;` that closes them
pub record Group : Type 0 where
  pub words : List Lexeme
  pub semi : Lexeme

abbrev pub tokens_in : Group → List Lexeme
tokens_in g = g.words ++ g.semi ∷ []

abbrev pub IsGroup : Group → Type 0
IsGroup g = AllByRecursion IsNoSemi g.words × (g.semi.kind ≡ kind.Semi)

abbrev pub has_words : List Lexeme → Bool
has_words [] = false
has_words (w ∷ ws) = true

abbrev pub is_statement : Group → Bool
is_statement g = has_words g.words

-- Statement n of these tokens begins with this one: before it stand groups, of which n - 1 are statements.
pub record BeginsStatement (tokens : List Lexeme) (n : ℕ) (first : Lexeme) : Type 0 where
  pub groups : List Group
  pub more : List Lexeme
  pub whole : tokens ≡ flat_map tokens_in groups ++ first ∷ more
  pub closed : AllByRecursion IsGroup groups
  pub no_semi : IsNoSemi first
  pub number : n ≡ suc (length (filter is_statement groups))

-- the position of a statement of a text is that of the token that begins it, and only such a statement has one
abbrev pub PositionOfFirstToken : Type 0
PositionOfFirstToken =
    (text : List ℕ) (given : List (Result Lexeme LexFault)) (n : ℕ) (p : Position) → Lexes text given
    → (statement_position text n ≡ Some p)
    ↔ ((first : Lexeme) × BeginsStatement (tokens_of given) n first × (p ≡ position_at text first.start))
