-- The words of each statement: a whole text's tokens, cut at each `;`.
use Rattle.std.specs.Prelude.{ℕ, Bool, ◌||◌, ◌==◌, List, [], ◌∷◌, map, slice_index, Option, Some, None, Result, Ok, Err}
use Rattle.std.specs.Char.{to_ascii_lowercase, is_ascii_digit}
use Rattle.std.specs.Str.{bytes_eq}
use Rattle.svf_lex.specs.declared.Kind.{Kind}
use Rattle.svf_lex.specs.declared.Kind.TheVariants as kind
use Rattle.svf_lex.specs.declared.LexFault.{LexFault}
use Rattle.svf_lex.specs.declared.Lexer.{Lexer}
use Rattle.svf_lex.specs.Cutting.{Lexeme}
use Rattle.svf_lex.specs.Left.{left}

-- a run, `(` or `)`
abbrev pub Word : Type 0
Word = List ℕ

-- groups of words, each closed by a `;`, and what stands after the last one: it is empty, or the text is faulty there
pub data Groups : Type 0 where
  last : List Word → Option LexFault → Groups
  group : List Word → Groups → Groups

-- a word before these groups
abbrev pub with_word : Word → Groups → Groups
with_word w (last ws fault) = last (w ∷ ws) fault
with_word w (group ws groups) = group (w ∷ ws) groups

abbrev pub with_token : Kind → Word → Groups → Groups
with_token kind.Semi w groups = group [] groups
with_token k w groups = with_word w groups

-- tokens are cut at each `;`
abbrev pub groups_of : List (Result Lexeme LexFault) → Groups
groups_of [] = last [] None
groups_of (Err e ∷ items) = last [] (Some e)
groups_of (Ok t ∷ items) = with_token t.kind t.text (groups_of items)

-- the words up to the first `;`
abbrev pub first_words : Groups → List Word
first_words (last ws fault) = ws
first_words (group ws groups) = ws

-- the words that are left of the statement at a lexer
unfoldable pub words_left : Lexer → List Word
words_left lexer = first_words (groups_of (left lexer))

-- a word in lower case
abbrev pub lower : List ℕ → List ℕ
lower w = map to_ascii_lowercase w

-- the word is this keyword, in any case
abbrev pub reads : Word → List ℕ → Bool
reads w keyword = bytes_eq (lower w) (lower keyword)

abbrev pub is_open : Word → Bool
is_open w = slice_index w 0 == 40

abbrev pub is_close : Word → Bool
is_close w = slice_index w 0 == 41

-- a run that begins with a digit or `.` stands for a number
abbrev pub is_number : Word → Bool
is_number w = is_ascii_digit (slice_index w 0) || slice_index w 0 == 46
