-- Laws over every text, which public functions ensure.
use Rattle.std.specs.Prelude.{◌≡◌, ℕ, ◌+◌, ◌≤◌, ◌↔◌, ◌⊎◌, List, [], ◌∷◌, ◌++◌, length, map, Result}
use Rattle.std.specs.List.{flat_map}
use Rattle.svf_lex.specs.declared.Kind.TheVariants as kind
use Rattle.svf_lex.specs.declared.LexFault.{LexFault}
use Rattle.svf_lex.specs.Cutting.{Lexeme, piece, bad, cuts_of, items_of}
use Rattle.svf_lex.specs.Gaps.{Part, token, bytes_of, Divides, TokensOf, BadAfter}
use Rattle.svf_lex.specs.Lexed.{Lexes, InOrder}

-- the tokens of a text are those of its cut
abbrev pub TokensAreCut : Type 0
TokensAreCut = (text : List ℕ) (tokens : List Lexeme) → TokensOf text tokens ↔ (cuts_of text ≡ map piece tokens)

-- and so they are where a byte begins nothing
abbrev pub BadByteIsCut : Type 0
BadByteIsCut = (text : List ℕ) (tokens : List Lexeme) (place : ℕ)
    → BadAfter text tokens place ↔ (cuts_of text ≡ map piece tokens ++ bad place ∷ [])

-- each text is tokens and gaps, to its end or to a byte that begins nothing
abbrev pub EachIsCut : Type 0
EachIsCut = (text : List ℕ)
    → ((tokens : List Lexeme) × TokensOf text tokens)
    ⊎ ((tokens : List Lexeme) × (place : ℕ) × BadAfter text tokens place)

-- it has one row of parts
abbrev pub PartsAreOne : Type 0
PartsAreOne = (text : List ℕ) (parts others : List Part) → Divides parts text [] → Divides others text []
    → parts ≡ others

abbrev pub TokensAreOne : Type 0
TokensAreOne = (text : List ℕ) (tokens others : List Lexeme) → TokensOf text tokens → TokensOf text others
    → tokens ≡ others

abbrev pub BadByteIsOne : Type 0
BadByteIsOne = (text : List ℕ) (tokens others : List Lexeme) (place other : ℕ) → BadAfter text tokens place
    → BadAfter text others other → (tokens ≡ others) × (place ≡ other)

-- no text is both
abbrev pub NeverBoth : Type 0
NeverBoth = (text : List ℕ) (tokens others : List Lexeme) (place : ℕ) → TokensOf text tokens
    → ¬ BadAfter text others place

-- the bytes of all parts in order are the text
abbrev pub PartsJoin : Type 0
PartsJoin = (text : List ℕ) (parts : List Part) → Divides parts text [] → flat_map bytes_of parts ≡ text

-- no run stands right behind another
abbrev pub RunsStandApart : Type 0
RunsStandApart = (before after : List Part) (first second text rest : List ℕ)
    → ¬ Divides (before ++ token kind.Run first ∷ token kind.Run second ∷ after) text rest

-- what a lexer gives for a text is what the whole text says
abbrev pub LexerGives : Type 0
LexerGives = (text : List ℕ) (given : List (Result Lexeme LexFault)) → Lexes text given ↔ (items_of text ≡ given)

-- tokens are slices of the text, in rising order, and behind a fault is nothing
abbrev pub SlicesInOrder : Type 0
SlicesInOrder = (text : List ℕ) → InOrder text 0 (items_of text)

-- there are at most as many items as bytes, and a fault
abbrev pub ItemsAreFew : Type 0
ItemsAreFew = (text : List ℕ) → length (items_of text) ≤ length text + 1
