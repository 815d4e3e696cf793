-- Wave files without strings, for readers that know none: those are GTKWave's addition to the format.
use Rattle.std.specs.Prelude.{◌≡◌, ℕ, ◌==◌, Bool, ◌||◌, List, [], ◌∷◌, ◌++◌, codes, length, nat_eq, take}
use Rattle.std.specs.Prelude.{if◌then◌else◌}
use Rattle.std.specs.Cmp.Lexicographic.{pointwise}

-- ends each line
abbrev pub newline : ℕ
newline = 10

abbrev pub begins_with : (front line : List ℕ) → Bool
begins_with front line = pointwise nat_eq front (take (length front) line)

-- a line that names a string variable, or tells the value of one
abbrev pub tells_string : (line : List ℕ) → Bool
tells_string line = begins_with (codes "s") line || begins_with (codes "$var string ") line

abbrev pub kept_line : (line : List ℕ) → List ℕ
kept_line line = if tells_string line then [] else line

-- what is handed on of bytes behind the front of a line: each line that tells no string, where it ends
abbrev pub passed : (line bytes : List ℕ) → List ℕ
passed line [] = []
passed line (b ∷ bs) =
    if b == newline then kept_line (line ++ b ∷ []) ++ passed [] bs else passed (line ++ b ∷ []) bs

-- the front of a line that they do not end
abbrev pub held : (line bytes : List ℕ) → List ℕ
held line [] = line
held line (b ∷ bs) = if b == newline then held [] bs else held (line ++ b ∷ []) bs

-- one byte of these
abbrev pub taken_text : (line : List ℕ) → (b : ℕ) → List ℕ
taken_text line b = if b == newline then kept_line (line ++ b ∷ []) else []

abbrev pub taken_line : (line : List ℕ) → (b : ℕ) → List ℕ
taken_line line b = if b == newline then [] else line ++ b ∷ []

-- A file without its strings: each line of a wave file is ended.
abbrev pub without_strings : List ℕ → List ℕ
without_strings file = passed [] file

-- Pieces may be cut anywhere.
abbrev pub PiecesAreOne : Type 0
PiecesAreOne = (line xs ys : List ℕ)
    → (passed line (xs ++ ys) ≡ passed line xs ++ passed (held line xs) ys)
    × (held line (xs ++ ys) ≡ held (held line xs) ys)

-- a writer of such a file, and what it holds of a line
pub record PlainView (W : Type 0) : Type 0 where
  pub line : List ℕ
  pub inner : W
