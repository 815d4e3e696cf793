-- Where one lexer stands behind words of a statement at which another stands.
use Rattle.std.specs.Prelude.{◌≡◌, List, [], ◌∷◌, Result}
use Rattle.svf_lex.specs.declared.LexFault.{LexFault}
use Rattle.svf_lex.specs.Cutting.{Lexeme}
use Rattle.svf_words.specs.Words.{Word, Groups, with_word, groups_of}

-- words before groups
abbrev pub with_words : List Word → Groups → Groups
with_words [] groups = groups
with_words (w ∷ ws) groups = with_word w (with_words ws groups)

-- what is left at one place is some words of a statement, and then what is left at another
abbrev pub Behind : List (Result Lexeme LexFault) → List (Result Lexeme LexFault) → Type 0
Behind from to = (ws : List Word) × (groups_of from ≡ with_words ws (groups_of to))
