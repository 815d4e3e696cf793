-- What a search for the next token finds.
use Rattle.std.specs.Prelude.{ℕ, ◌+◌, List, [], ◌∷◌, length, drop, Option, Some, None, Result, Ok, Err}
use Rattle.svf_lex.specs.declared.Token.{Token}
use Rattle.svf_lex.specs.Cutting.{Lexeme, Cut, piece, bad, cut}

-- a token as a list of bytes and its place
abbrev pub lexeme : Token → Lexeme
lexeme t = record { kind = t.kind; text = t.text.now; start = t.start }

-- where a token ends
abbrev pub end_of : Token → ℕ
end_of t = t.start + length t.text.now

-- the cuts of a text from some place on, by what stands first there: no token, a token, or a bad byte
abbrev pub cuts_from : List ℕ → Option (Result Token ℕ) → List Cut
cuts_from source None = []
cuts_from source (Some (Ok t)) = piece (lexeme t) ∷ cut 0 (end_of t) (drop (end_of t) source)
cuts_from source (Some (Err place)) = bad place ∷ []

-- where a token begins, or a byte stands that begins nothing
abbrev pub place_of : Result Token ℕ → ℕ
place_of (Ok t) = t.start
place_of (Err place) = place
