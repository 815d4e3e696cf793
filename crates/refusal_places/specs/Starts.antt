-- Where the statements of SVF text start.
use Rattle.std.specs.Prelude.{ℕ, zero, suc, Bool, true, false, List, [], ◌∷◌, map, slice_get, Option, None, Result}
use Rattle.std.specs.Prelude.{Ok, Err}
use Rattle.svf_lex.specs.declared.Kind.{Kind}
use Rattle.svf_lex.specs.declared.Kind.TheVariants as kind
use Rattle.svf_lex.specs.declared.LexFault.{LexFault}
use Rattle.svf_lex.specs.Cutting.{Lexeme, items_of}
use Rattle.output_words.specs.declared.lines.Position.{Position}
use Rattle.refusal_places.specs.Positions.{position_at}

-- whether a statement is open behind a token of this kind: behind any but a `;`
abbrev pub is_open_behind : Kind → Bool
is_open_behind kind.Semi = false
is_open_behind k = true

-- A token that is no `;` starts a statement where none is open.
abbrev pub with_start : (is_open : Bool) → Kind → ℕ → List ℕ → List ℕ
with_start is_open kind.Semi start starts = starts
with_start true k start starts = starts
with_start false k start starts = start ∷ starts

-- the offsets of the tokens that start statements, where a statement is open before these tokens or none is
abbrev pub starts : (is_open : Bool) → List (Result Lexeme LexFault) → List ℕ
starts is_open [] = []
starts is_open (Err e ∷ items) = []
starts is_open (Ok t ∷ items) = with_start is_open t.kind t.start (starts (is_open_behind t.kind) items)

-- the offsets at which the statements of a text start, in order: an empty one is none
abbrev pub starts_of : List ℕ → List ℕ
starts_of text = starts false (items_of text)

-- the same by lines and columns
abbrev pub places_of : List ℕ → List Position
places_of text = map (position_at text) (starts_of text)

-- the position of statement number n of a text, counted from 1
abbrev pub statement_position : List ℕ → ℕ → Option Position
statement_position text zero = None
statement_position text (suc k) = slice_get (places_of text) k
