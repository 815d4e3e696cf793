-- What a lexer has left.
use Rattle.std.specs.Prelude.{ℕ, ◌+◌, List, length, drop}
use Rattle.bsdl_text.specs.declared.tokens.Token.{Token}
use Rattle.bsdl_text.specs.declared.tokens.Lexer.{Lexer}
use Rattle.bsdl_text.specs.Cutting.{Lexeme, Cut, cut, tokens}

-- a token as a list of bytes and its place
abbrev pub lexeme : Token → Lexeme
lexeme t = record { kind = t.kind; text = t.text.now; start = t.start }

-- where a token ends
abbrev pub end_of : Token → ℕ
end_of t = t.start + length t.text.now

-- what a lexer has left to cut
abbrev pub cuts_left : Lexer → List Cut
cuts_left l = cut l.quoted 0 l.at (drop l.at l.source.now)

-- the tokens that a lexer has left, up to a bad byte
unfoldable pub left : Lexer → List Lexeme
left l = tokens (cuts_left l)
