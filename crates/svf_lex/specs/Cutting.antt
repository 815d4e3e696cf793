-- A whole text, cut into tokens and gaps.
use Rattle.std.specs.Prelude.{ℕ, zero, suc, ◌+◌, ◌==◌, if◌then◌else◌, List, [], ◌∷◌, take, Option, Some, None, Result}
use Rattle.std.specs.Prelude.{Ok, Err, unwrap_or}
use Rattle.std.specs.List.{prefix_len, position_or_len}
use Rattle.svf_lex.specs.declared.Kind.{Kind}
use Rattle.svf_lex.specs.declared.Kind.TheVariants as kind
use Rattle.svf_lex.specs.declared.scan.Front.{Front}
use Rattle.svf_lex.specs.declared.scan.Front.TheVariants.{Gap, Token, Bad}
use Rattle.svf_lex.specs.declared.LexFault.{LexFault}
use Rattle.svf_lex.specs.declared.LexFault.TheVariants as fault
use Rattle.token_runs.specs.Bytes.{is_white, is_line_end}
use Rattle.svf_lex.specs.Bytes.{is_run, begins_comment}

-- a token: its kind, its bytes, and where they start in the text
pub record Lexeme : Type 0 where
  pub kind : Kind
  pub text : List ℕ
  pub start : ℕ

-- what cutting finds: a token, or where a byte stands that begins nothing, and there it ends
pub data Cut : Type 0 where
  piece : Lexeme → Cut
  bad : ℕ → Cut

-- what the byte c begins before these bytes: a gap or a token of n bytes more, or nothing
abbrev pub front : ℕ → List ℕ → Front
front c cs =
    if is_white c then Gap 0
    else if begins_comment c cs then Gap (position_or_len is_line_end cs)
    else if is_run c then Token kind.Run (prefix_len is_run cs)
    else if c == 40 then Token kind.Open 0
    else if c == 41 then Token kind.Close 0
    else if c == 59 then Token kind.Semi 0
    else Bad

-- how many bytes it has behind its first
abbrev pub behind : Front → ℕ
behind (Gap n) = n
behind (Token k n) = n
behind Bad = 0

-- what is cut from place `at` on, where the byte c is and then cs, before the cuts behind the front
abbrev pub with_front : Front → ℕ → ℕ → List ℕ → List Cut → List Cut
with_front (Gap n) at c cs cuts = cuts
with_front (Token k n) at c cs cuts = piece (record { kind = k; text = c ∷ take n cs; start = at }) ∷ cuts
with_front Bad at c cs cuts = bad at ∷ []

-- The tokens of a text from place `at` on, up to its end or a bad byte. The first `skip` bytes belong to what was cut
-- before, so each step goes on by one byte.
unfoldable pub cut : ℕ → ℕ → List ℕ → List Cut
cut skip at [] = []
cut (suc k) at (c ∷ cs) = cut k (at + 1) cs
cut zero at (c ∷ cs) = with_front (front c cs) at c cs (cut (behind (front c cs)) (at + 1) cs)

-- the tokens of a whole text
abbrev pub cuts_of : List ℕ → List Cut
cuts_of text = cut 0 0 text

-- where the statement that is open behind a token of this kind began
abbrev pub begun_after : Kind → Option ℕ → ℕ → Option ℕ
begun_after kind.Semi begun start = None
begun_after k begun start = Some (unwrap_or begun start)

-- what a lexer gives at the text's end
abbrev pub ending : Option ℕ → List (Result Lexeme LexFault)
ending None = []
ending (Some first) = Err (fault.Unclosed first) ∷ []

-- what a lexer gives: the tokens, then a bad byte, or that the text ends in a statement that began at `begun`
abbrev pub items : Option ℕ → List Cut → List (Result Lexeme LexFault)
items begun [] = ending begun
items begun (piece t ∷ cuts) = Ok t ∷ items (begun_after t.kind begun t.start) cuts
items begun (bad at ∷ cuts) = Err (fault.BadByte at) ∷ []

-- what a lexer gives for a whole text
abbrev pub items_of : List ℕ → List (Result Lexeme LexFault)
items_of text = items None (cuts_of text)
