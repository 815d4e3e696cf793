-- Laws over every text, which public functions ensure.
use Rattle.std.specs.Prelude.{◌≡◌, ℕ, ◌↔◌, ◌⊎◌, Bool, List, [], ◌∷◌, ◌++◌, map}
use Rattle.bsdl_text.specs.Cutting.{Lexeme, piece, bad, cuts_of}
use Rattle.bsdl_text.specs.Gaps.{TokensOf, BadAfter}

-- the tokens of a text are those of its cut
abbrev pub TokensAreCut : Type 0
TokensAreCut =
    (quoted : Bool) (text : List ℕ) (tokens : List Lexeme)
    → TokensOf quoted text tokens ↔ (cuts_of quoted text ≡ map piece tokens)

-- and so they are where a byte begins nothing
abbrev pub BadByteIsCut : Type 0
BadByteIsCut =
    (quoted : Bool) (text : List ℕ) (tokens : List Lexeme) (place : ℕ)
    → BadAfter quoted text tokens place ↔ (cuts_of quoted text ≡ map piece tokens ++ bad place ∷ [])

-- each text is tokens and gaps, to its end or to a byte that begins nothing
abbrev pub EachIsCut : Type 0
EachIsCut =
    (quoted : Bool) (text : List ℕ) → ((tokens : List Lexeme) × TokensOf quoted text tokens) ⊎
    ((tokens : List Lexeme) × (place : ℕ) × BadAfter quoted text tokens place)

-- its tokens are one list
abbrev pub TokensAreOne : Type 0
TokensAreOne =
    (quoted : Bool) (text : List ℕ) (tokens others : List Lexeme) → TokensOf quoted text tokens
    → TokensOf quoted text others → tokens ≡ others

abbrev pub BadByteIsOne : Type 0
BadByteIsOne =
    (quoted : Bool) (text : List ℕ) (tokens others : List Lexeme) (place other : ℕ) → BadAfter quoted text tokens place
    → BadAfter quoted text others other → (tokens ≡ others) × (place ≡ other)

-- no text is both
abbrev pub NeverBoth : Type 0
NeverBoth =
    (quoted : Bool) (text : List ℕ) (tokens others : List Lexeme) (place : ℕ) → TokensOf quoted text tokens
    → ¬ BadAfter quoted text others place
