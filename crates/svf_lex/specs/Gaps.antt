-- What the tokens of a text are, said of the whole text: it is a row of parts, each a byte of white space, a comment or
-- a token, and every byte belongs to one of them. Nothing here reads from left to right.
use Rattle.std.specs.Prelude.{◌≡◌, ℕ, ◌+◌, ◌<◌, ◌⊎◌, true, false, List, [], ◌∷◌, ◌++◌, length, codes}
use Rattle.std.specs.List.{flat_map, AllByRecursion}
use Rattle.svf_lex.specs.declared.Kind.{Kind}
use Rattle.svf_lex.specs.declared.Kind.TheVariants as kind
use Rattle.token_runs.specs.Bytes.{is_white}
use Rattle.svf_lex.specs.Bytes.{is_run, is_mark, begins_comment}
use Rattle.svf_lex.specs.Cutting.{Lexeme}
use Rattle.token_runs.specs.Runs.{Ends, AllPass, EndsLine, IsInLine}

pub data Part : Type 0 where
  white : ℕ → Part
  comment : List ℕ → Part
  token : Kind → List ℕ → Part

abbrev pub bytes_of : Part → List ℕ
bytes_of (white c) = c ∷ []
bytes_of (comment bytes) = bytes
bytes_of (token k bytes) = bytes

-- `!` or `//`, and then bytes of one line
abbrev pub IsComment : List ℕ → Type 0
IsComment bytes = (body : List ℕ) × ((bytes ≡ codes "!" ++ body) ⊎ (bytes ≡ codes "//" ++ body))
    × AllByRecursion IsInLine body

-- A part that stands before this rest of the text. A comment goes on to its line's end, and a run as far as bytes of a
-- run go: it is the longest, and between two runs stands a gap.
abbrev pub IsPart : Part → List ℕ → Type 0
IsPart (white c) rest = is_white c ≡ true
IsPart (comment bytes) rest = IsComment bytes × EndsLine rest
IsPart (token kind.Run bytes) rest = (0 < length bytes) × AllPass is_run bytes × Ends is_run rest
IsPart (token kind.Open bytes) rest = bytes ≡ codes "("
IsPart (token kind.Close bytes) rest = bytes ≡ codes ")"
IsPart (token kind.Semi bytes) rest = bytes ≡ codes ";"

-- a text is these parts in order, and then this rest
abbrev pub Divides : List Part → List ℕ → List ℕ → Type 0
Divides [] text rest = text ≡ rest
Divides (p ∷ parts) text rest = (after : List ℕ) × (text ≡ bytes_of p ++ after) × IsPart p after
    × Divides parts after rest

-- the tokens among parts, the first of which starts at place `at`
abbrev pub tokens_at : ℕ → List Part → List Lexeme
tokens_at at [] = []
tokens_at at (white c ∷ parts) = tokens_at (at + 1) parts
tokens_at at (comment bytes ∷ parts) = tokens_at (at + length bytes) parts
tokens_at at (token k bytes ∷ parts) = record { kind = k; text = bytes; start = at }
    ∷ tokens_at (at + length bytes) parts

-- a text that is tokens and gaps to its end, and its tokens
pub record TokensOf (text : List ℕ) (tokens : List Lexeme) : Type 0 where
  pub parts : List Part
  pub divides : Divides parts text []
  pub among : tokens ≡ tokens_at 0 parts

-- a byte before this rest of the text that is no white space and begins no comment and no token
pub record BeginsNothing (c : ℕ) (rest : List ℕ) : Type 0 where
  pub white : is_white c ≡ false
  pub comment : begins_comment c rest ≡ false
  pub run : is_run c ≡ false
  pub mark : is_mark c ≡ false

-- a text with such a byte at this place, behind these tokens and gaps
pub record BadAfter (text : List ℕ) (tokens : List Lexeme) (place : ℕ) : Type 0 where
  pub parts : List Part
  pub byte : ℕ
  pub rest : List ℕ
  pub divides : Divides parts text (byte ∷ rest)
  pub nothing : BeginsNothing byte rest
  pub among : tokens ≡ tokens_at 0 parts
  pub there : place ≡ length (flat_map bytes_of parts)
