-- What the first token that does not fit is, said by the grammar of statements: some statement begins with the words
-- before it, and none goes on with it.
use Rattle.std.specs.Prelude.{◌≡◌, ℕ, List, [], ◌∷◌, ◌++◌, map, Some, Result, Ok}
use Rattle.std.specs.List.{AllByRecursion}
use Rattle.svf_lex.specs.declared.Kind.TheVariants as kind
use Rattle.svf_lex.specs.declared.LexFault.{LexFault}
use Rattle.svf_lex.specs.Cutting.{Lexeme}
use Rattle.svf_lex.specs.Lexed.{IsNoSemi}
use Rattle.svf_words.specs.declared.keywords.Command.{Command}
use Rattle.svf_words.specs.Words.{Word}
use Rattle.svf_words.specs.Keywords.{command_word}
use Rattle.svf_parse.specs.Forms.{Form}
use Rattle.svf_parse.specs.Grammar.{IsForm, Reads}
use Rattle.refusal_places.specs.declared.misfits.Awaited.{Awaited}
use Rattle.refusal_places.specs.Misfits.{behind_command, misfit}

-- a command with these words is a statement
abbrev pub IsWhole : Word → List Word → Type 0
IsWhole command ws = (f : Form) × IsForm (command ∷ ws) f

-- some statement begins with them
abbrev pub GoesOn : Word → List Word → Type 0
GoesOn command ws = (more : List Word) × IsWhole command (ws ++ more)

abbrev pub words_of : List Lexeme → List Word
words_of ts = map (λ t. t.text) ts

-- The token at this place is the first with which no statement of the command goes on: behind the tokens before it some
-- does; with it none does, and where it is the `;` they are none.
pub record IsFirstMisfit (command : Word) (items : List (Result Lexeme LexFault)) (start : ℕ) : Type 0 where
  pub front : List Lexeme
  pub token : Lexeme
  pub more : List (Result Lexeme LexFault)
  pub split : items ≡ map (λ t. Ok t) front ++ Ok token ∷ more
  pub no_semi : AllByRecursion IsNoSemi front
  pub place : start ≡ token.start
  pub before : GoesOn command (words_of front)
  pub at_end : token.kind ≡ kind.Semi → IsWhole command (words_of front) → ⊥
  pub with_it : IsNoSemi token → GoesOn command (words_of front ++ token.text ∷ []) → ⊥

-- The law: so is each token that is told to be a misfit behind a command.
abbrev pub MisfitsComeFirst : Type 0
MisfitsComeFirst =
    (c : Command) (command : Word) (a : Awaited) (items : List (Result Lexeme LexFault)) (start : ℕ)
    → Reads command (command_word c) → behind_command c ≡ Some a → misfit a items ≡ Some start
    → IsFirstMisfit command items start
