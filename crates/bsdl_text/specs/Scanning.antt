-- What a search for the next token finds.
use Rattle.std.specs.Prelude.{◌≡◌, ◌<◌, ◌+◌, ℕ, Bool, if◌then◌else◌, List, [], ◌∷◌, length, drop, slice_index}
use Rattle.std.specs.Prelude.{Option, Some, None, Result, Ok, Err}
use Rattle.std.specs.List.{position_or_len}
use Rattle.bsdl_text.specs.declared.tokens.Token.{Token}
use Rattle.token_runs.specs.Bytes.{is_white, is_line_end}
use Rattle.bsdl_text.specs.Bytes.{begins_comment}
use Rattle.bsdl_text.specs.Left.{lexeme, end_of}
use Rattle.bsdl_text.specs.Cutting.{Cut, piece, bad, cut}

-- the cuts of a text from some place on, by what stands first there: no token, a token, or a bad byte
abbrev pub cuts_from : Bool → List ℕ → Option (Result Token ℕ) → List Cut
cuts_from quoted source None = []
cuts_from quoted source (Some (Ok t)) = piece (lexeme t) ∷ cut quoted 0 (end_of t) (drop (end_of t) source)
cuts_from quoted source (Some (Err place)) = bad place ∷ []

-- how many bytes a gap has behind the byte c, where c begins one before these bytes
abbrev pub gap : Bool → ℕ → List ℕ → Option ℕ
gap quoted c cs =
    if is_white c then Some 0
    else if begins_comment quoted c cs then Some (position_or_len is_line_end cs)
    else None

-- no gap begins at this place of a text
abbrev pub NoGap : Bool → List ℕ → ℕ → Type 0
NoGap quoted source at = at < length source → gap quoted (slice_index source at) (drop (at + 1) source) ≡ None
