-- The tokens of a statement, up to its `;`.
use Rattle.std.specs.Prelude.{⊤}
use Rattle.std.specs.Prelude.{◌≡◌, ◌≢◌, List, [], ◌∷◌, Option, Some, None, Result, Ok, Err}
use Rattle.svf_lex.specs.declared.Kind.TheVariants as kind
use Rattle.svf_lex.specs.declared.LexFault.{LexFault}
use Rattle.svf_lex.specs.declared.Token.{Token}
use Rattle.svf_lex.specs.Cutting.{Lexeme}
use Rattle.svf_lex.specs.Scanning.{lexeme}

-- a statement ends here: at its `;`, at a fault, or with the text
abbrev pub IsOver : List (Result Lexeme LexFault) → Type 0
IsOver [] = ⊤
IsOver (Err e ∷ items) = ⊤
IsOver (Ok t ∷ items) = t.kind ≡ kind.Semi

-- the next token of a statement was taken, or the statement ends here and all stays
abbrev pub NextOfStatement : List (Result Lexeme LexFault) → List (Result Lexeme LexFault) → Option Token → Type 0
NextOfStatement old new None = (new ≡ old) × IsOver old
NextOfStatement old new (Some t) = (old ≡ Ok (lexeme t) ∷ new) × (t.kind ≢ kind.Semi)
