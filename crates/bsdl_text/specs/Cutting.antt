-- A whole text, cut into tokens and gaps: a description (`quoted` is false), or what stands within quotes (true),
-- where `--` and `"` begin nothing of their own.
use Rattle.std.specs.Prelude.{ℕ, zero, suc, ◌+◌, Bool, ◌==◌, if◌then◌else◌, List, [], ◌∷◌, take, slice_index, Option}
use Rattle.std.specs.Prelude.{Some, None}
use Rattle.std.specs.List.{prefix_len, position_or_len}
use Rattle.bsdl_text.specs.declared.tokens.Kind.{Kind}
use Rattle.bsdl_text.specs.declared.tokens.Kind.TheVariants as kind
use Rattle.bsdl_text.specs.declared.tokens.scan.Front.{Front}
use Rattle.bsdl_text.specs.declared.tokens.scan.Front.TheVariants.{Gap, Token, Bad}
use Rattle.token_runs.specs.Bytes.{is_white, is_line_end}
use Rattle.bsdl_text.specs.Bytes.{begins_word, is_word, begins_number, is_number, is_mark}
use Rattle.bsdl_text.specs.Bytes.{begins_comment, begins_string, is_within}

-- a token: its kind, its bytes, and where they start in the text
pub record Lexeme : Type 0 where
  pub kind : Kind
  pub text : List ℕ
  pub start : ℕ

-- what cutting finds: a token, or where a byte stands that begins nothing, and there it ends
pub data Cut : Type 0 where
  piece : Lexeme → Cut
  bad : ℕ → Cut

-- a string whose first n bytes could stand within it: the next one closes it, or nothing begins
abbrev pub string_front : ℕ → List ℕ → Front
string_front n cs = if slice_index cs n == 34 then Token kind.Text (n + 1) else Bad

-- what the byte c begins before these bytes: a gap or a token of n bytes more, or nothing
abbrev pub front : Bool → ℕ → List ℕ → Front
front quoted c cs =
    if is_white c then Gap 0
    else if begins_comment quoted c cs then Gap (position_or_len is_line_end cs)
    else if begins_string quoted c then string_front (prefix_len is_within cs) cs
    else if begins_word c then Token kind.Word (prefix_len is_word cs)
    else if begins_number c then Token kind.Number (prefix_len is_number cs)
    else if is_mark c then Token kind.Mark 0
    else Bad

-- how many bytes it has behind its first
abbrev pub behind : Front → ℕ
behind (Gap n) = n
behind (Token k n) = n
behind Bad = 0

-- what is cut from place `at` on, where the byte c is and then cs, before the cuts behind the front
abbrev pub with_front : Front → ℕ → ℕ → List ℕ → List Cut → List Cut
with_front (Gap n) at c cs cuts = cuts
with_front (Token k n) at c cs cuts = piece (record { kind = k; text = c ∷ take n cs; start = at }) ∷ cuts
with_front Bad at c cs cuts = bad at ∷ []

-- The tokens of a text from place `at` on, up to its end or a bad byte. The first `skip` bytes belong to what was cut
-- before, so each step goes on by one byte.
unfoldable pub cut : Bool → ℕ → ℕ → List ℕ → List Cut
cut quoted skip at [] = []
cut quoted (suc k) at (c ∷ cs) = cut quoted k (at + 1) cs
cut quoted zero at (c ∷ cs) =
    with_front (front quoted c cs) at c cs (cut quoted (behind (front quoted c cs)) (at + 1) cs)

-- the tokens of a whole text
abbrev pub cuts_of : Bool → List ℕ → List Cut
cuts_of quoted text = cut quoted 0 0 text

-- the tokens up to the end or to a bad byte
abbrev pub tokens : List Cut → List Lexeme
tokens [] = []
tokens (piece t ∷ cuts) = t ∷ tokens cuts
tokens (bad at ∷ cuts) = []

-- the place of the first bad byte
abbrev pub bad_place : List Cut → Option ℕ
bad_place [] = None
bad_place (piece t ∷ cuts) = bad_place cuts
bad_place (bad at ∷ cuts) = Some at
