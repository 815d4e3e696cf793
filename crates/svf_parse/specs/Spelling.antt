-- The grammar: which words are a statement, and which texts are a list of them. Nothing here reads from left to right.
use Rattle.std.specs.Prelude.{⊤}
use Rattle.std.specs.Prelude.{◌≡◌, ℕ, ◌+◌, ◌<◌, ◌≤◌, ◌⊎◌, List, [], ◌∷◌, length}
use Rattle.std.specs.Prelude.{Some, None, Result, Ok, Err}
use Rattle.jt_limits.specs.declared.Limits.{Limits}
use Rattle.jt_limits.specs.Limits.{limits}
use Rattle.svf_lex.specs.declared.LexFault.{LexFault}
use Rattle.svf_lex.specs.Cutting.{Lexeme}
use Rattle.svf_lex.specs.Lexed.{Lexes}
use Rattle.svf_words.specs.declared.fault.Code.{Code}
use Rattle.svf_words.specs.declared.fault.Code.TheVariants as code
use Rattle.svf_words.specs.declared.fault.SvfFault.{SvfFault}
use Rattle.svf_words.specs.Words.{Word, Groups, last, group, groups_of}
use Rattle.svf_parse.specs.Forms.{Form}
use Rattle.svf_parse.specs.Grammar.{IsForm, HasCommand}
use Rattle.svf_parse.specs.Judging.{Said, form_says, form_says_within}
use Rattle.svf_parse.specs.Reading.{text_limit, statement_limit, lex_code}

-- the words spell this statement
abbrev pub SpellsWithin : Limits → List Word → Said → Type 0
SpellsWithin l ws s = (f : Form) × IsForm ws f × (form_says_within l f ≡ Ok s)

-- the words of one statement have this refusal
pub data Refuses (ws : List Word) (c : Code) : Type 0 where
  unknown : (HasCommand ws → ⊥) → c ≡ code.UnknownCommand → Refuses ws c
  misfit : HasCommand ws → ((f : Form) → IsForm ws f → ⊥) → c ≡ code.BadForm → Refuses ws c
  of_form : (f : Form) → IsForm ws f → form_says f ≡ Err c → Refuses ws c

-- the words of each group that has any spell these statements, in order
abbrev pub EachSpellsWithin : Limits → List (List Word) → List Said → Type 0
EachSpellsWithin l [] [] = ⊤
EachSpellsWithin l [] (s ∷ ss) = ⊥
EachSpellsWithin l ([] ∷ gs) ss = EachSpellsWithin l gs ss
EachSpellsWithin l ((w ∷ ws) ∷ gs) [] = ⊥
EachSpellsWithin l ((w ∷ ws) ∷ gs) (s ∷ ss) = SpellsWithin l (w ∷ ws) s × EachSpellsWithin l gs ss

-- groups, each closed by a `;`, and then these groups
abbrev pub closed_by : List (List Word) → Groups → Groups
closed_by [] groups = groups
closed_by (g ∷ gs) groups = group g (closed_by gs groups)

-- The text spells these statements: its tokens are cut at each `;`, each group that has words spells one, and nothing
-- stands after the last `;`.
abbrev pub TextSpellsWithin : Limits → List ℕ → List Said → Type 0
TextSpellsWithin l text ss =
    (tokens : List (Result Lexeme LexFault)) × (gs : List (List Word)) × (length text ≤ l.text_bytes)
    × (length ss ≤ l.statements)
    × Lexes text tokens × (groups_of tokens ≡ closed_by gs (last [] None)) × EachSpellsWithin l gs ss

-- ---- the same within the limits that stand

abbrev pub Spells : List Word → Said → Type 0
Spells ws s = SpellsWithin limits ws s

abbrev pub EachSpells : List (List Word) → List Said → Type 0
EachSpells gs ss = EachSpellsWithin limits gs ss

abbrev pub TextSpells : List ℕ → List Said → Type 0
TextSpells text ss = TextSpellsWithin limits text ss

-- the refusal of the statement behind these
abbrev pub fault_behind : List Said → Code → SvfFault
fault_behind ss c = record { statement = length ss + 1; code = c }

-- The first refusal of groups: what stands before it spells statements, and then the text is faulty before another `;`,
-- or the next group with words has the refusal, or that group is a statement too many.
pub data FirstRefusal (groups : Groups) (f : SvfFault) : Type 0 where
  at_end : (gs : List (List Word)) (ws : List Word) (ss : List Said) (e : LexFault)
      → groups ≡ closed_by gs (last ws (Some e)) → EachSpells gs ss
      → length ss ≤ statement_limit → f ≡ fault_behind ss (lex_code e) → FirstRefusal groups f
  in_words : (gs : List (List Word)) (w : Word) (ws : List Word) (after : Groups) (ss : List Said) (c : Code)
      → groups ≡ closed_by gs (group (w ∷ ws) after) → EachSpells gs ss
      → length ss ≤ statement_limit → Refuses (w ∷ ws) c → f ≡ fault_behind ss c → FirstRefusal groups f
  past_limit : (gs : List (List Word)) (w : Word) (ws : List Word) (after : Groups) (ss : List Said) (s : Said)
      → groups ≡ closed_by gs (group (w ∷ ws) after) → EachSpells gs ss
      → length ss ≡ statement_limit → Spells (w ∷ ws) s → f ≡ fault_behind ss code.TooLarge → FirstRefusal groups f

-- the first refusal of a text
abbrev pub TextRefuses : List ℕ → SvfFault → Type 0
TextRefuses text f =
    ((text_limit < length text) × (f ≡ record { statement = 0; code = code.TooLarge }))
    ⊎ ((length text ≤ text_limit) × (tokens : List (Result Lexeme LexFault)) × Lexes text tokens
    × FirstRefusal (groups_of tokens) f)
