-- What the tokens of a text are, said of the whole text: it is a row of parts, each a byte of white space, a comment
-- or a token, and every byte belongs to one of them. Nothing here reads from left to right.
use Rattle.std.specs.Prelude.{◌≡◌, ℕ, ◌+◌, Bool, true, false, List, [], ◌∷◌, ◌++◌, length, codes}
use Rattle.std.specs.List.{flat_map, AllByRecursion}
use Rattle.bsdl_text.specs.declared.tokens.Kind.{Kind}
use Rattle.bsdl_text.specs.declared.tokens.Kind.TheVariants as kind
use Rattle.token_runs.specs.Bytes.{is_white}
use Rattle.bsdl_text.specs.Bytes.{begins_word, is_word, begins_number, is_number, is_mark}
use Rattle.bsdl_text.specs.Bytes.{begins_comment, begins_string, is_within}
use Rattle.bsdl_text.specs.Cutting.{Lexeme}
use Rattle.token_runs.specs.Runs.{Ends, AllPass, EndsLine, IsInLine}

pub data Part : Type 0 where
  white : ℕ → Part
  comment : List ℕ → Part
  token : Kind → List ℕ → Part

abbrev pub bytes_of : Part → List ℕ
bytes_of (white c) = c ∷ []
bytes_of (comment bytes) = bytes
bytes_of (token k bytes) = bytes

-- A part that stands before this rest of the text. A comment goes on to its line's end; words and numbers go on as far
-- as their bytes go; a string begins and ends with `"` on one line.
abbrev pub IsPart : (quoted : Bool) → Part → List ℕ → Type 0
IsPart quoted (white c) rest = is_white c ≡ true
IsPart quoted (comment bytes) rest =
    (quoted ≡ false) × (body : List ℕ) × (bytes ≡ codes "--" ++ body) × AllByRecursion IsInLine body × EndsLine rest
IsPart quoted (token kind.Word bytes) rest =
    (c : ℕ) × (more : List ℕ) × (bytes ≡ c ∷ more) × (begins_word c ≡ true) × AllPass is_word more × Ends is_word rest
IsPart quoted (token kind.Number bytes) rest =
    (c : ℕ) × (more : List ℕ) × (bytes ≡ c ∷ more) × (begins_number c ≡ true) × AllPass is_number more
    × Ends is_number rest
IsPart quoted (token kind.Text bytes) rest =
    (quoted ≡ false) × (body : List ℕ) × (bytes ≡ codes "\"" ++ (body ++ codes "\"")) × AllPass is_within body
IsPart quoted (token kind.Mark bytes) rest =
    (c : ℕ) × (bytes ≡ c ∷ []) × (is_mark c ≡ true) × (begins_comment quoted c rest ≡ false)

-- a text is these parts in order, and then this rest
abbrev pub Divides : Bool → List Part → List ℕ → List ℕ → Type 0
Divides quoted [] text rest = text ≡ rest
Divides quoted (p ∷ parts) text rest =
    (after : List ℕ) × (text ≡ bytes_of p ++ after) × IsPart quoted p after × Divides quoted parts after rest

-- the tokens among parts, the first of which starts at place `at`
abbrev pub tokens_at : ℕ → List Part → List Lexeme
tokens_at at [] = []
tokens_at at (white c ∷ parts) = tokens_at (at + 1) parts
tokens_at at (comment bytes ∷ parts) = tokens_at (at + length bytes) parts
tokens_at at (token k bytes ∷ parts) =
    record { kind = k; text = bytes; start = at } ∷ tokens_at (at + length bytes) parts

-- a text that is tokens and gaps to its end, and its tokens
pub record TokensOf (quoted : Bool) (text : List ℕ) (tokens : List Lexeme) : Type 0 where
  pub parts : List Part
  pub divides : Divides quoted parts text []
  pub among : tokens ≡ tokens_at 0 parts

-- a string that is not closed on its line: the bytes behind its `"` go on without another `"` to a line's end
pub record IsUnclosed (rest : List ℕ) : Type 0 where
  pub body : List ℕ
  pub after : List ℕ
  pub whole : rest ≡ body ++ after
  pub within : AllPass is_within body
  pub ends : EndsLine after

-- a byte before this rest of the text that is no white space and begins no comment and no token
pub data BeginsNothing (quoted : Bool) (c : ℕ) (rest : List ℕ) : Type 0 where
  unclosed : begins_string quoted c ≡ true → IsUnclosed rest → BeginsNothing quoted c rest
  other : is_white c ≡ false → begins_string quoted c ≡ false → begins_word c ≡ false → begins_number c ≡ false
      → is_mark c ≡ false → BeginsNothing quoted c rest

-- a text with such a byte at this place, behind these tokens and gaps
pub record BadAfter (quoted : Bool) (text : List ℕ) (tokens : List Lexeme) (place : ℕ) : Type 0 where
  pub parts : List Part
  pub byte : ℕ
  pub rest : List ℕ
  pub divides : Divides quoted parts text (byte ∷ rest)
  pub nothing : BeginsNothing quoted byte rest
  pub among : tokens ≡ tokens_at 0 parts
  pub there : place ≡ length (flat_map bytes_of parts)
