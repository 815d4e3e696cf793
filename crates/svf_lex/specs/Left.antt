-- What a lexer has left.
use Rattle.std.specs.Prelude.{List, drop, Result, Ok, Err}
use Rattle.svf_lex.specs.declared.LexFault.{LexFault}
use Rattle.svf_lex.specs.declared.Lexer.{Lexer}
use Rattle.svf_lex.specs.declared.Token.{Token}
use Rattle.svf_lex.specs.Cutting.{cut, items, Lexeme}
use Rattle.svf_lex.specs.Scanning.{lexeme}

-- the items that a lexer has left
abbrev pub left : Lexer → List (Result Lexeme LexFault)
left l = items l.begun (cut 0 l.at (drop l.at l.source.now))

-- an item as a list of bytes and its place, or a fault
abbrev pub seen : Result Token LexFault → Result Lexeme LexFault
seen (Ok t) = Ok (lexeme t)
seen (Err e) = Err e
