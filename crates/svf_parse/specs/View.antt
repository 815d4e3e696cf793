-- What a reader of the code answers, beside what the words say.
use Rattle.std.specs.Prelude.{⊤}
use Rattle.std.specs.Prelude.{◌≡◌, ◌≢◌, ℕ, List, [], ◌∷◌, ◌++◌, map, Option, Some, None, Result, Ok, Err}
use Rattle.std.specs.Global.{Vec}
use Rattle.svf_lex.specs.declared.Lexer.{Lexer}
use Rattle.svf_lex.specs.Left.{left}
use Rattle.svf_words.specs.declared.fault.Code.{Code}
use Rattle.svf_words.specs.declared.fault.Code.TheVariants.{NoMemory}
use Rattle.svf_words.specs.declared.fault.SvfFault.{SvfFault}
use Rattle.svf_parse.specs.declared.fault.Refusal.{Refusal}
use Rattle.svf_parse.specs.declared.fault.Refusal.TheVariants as refusal
use Rattle.svf_parse.specs.declared.fault.Stop.{Stop}
use Rattle.svf_parse.specs.declared.fault.Stop.TheVariants as stop
use Rattle.svf_parse.specs.declared.statement.Statement.{Statement}
use Rattle.svf_parse.specs.declared.statement.Statement.TheVariants as statement
use Rattle.svf_parse.specs.declared.text.Front.{Front}
use Rattle.svf_parse.specs.declared.text.Front.TheVariants as front
use Rattle.svf_parse.specs.declared.text.End.{End}
use Rattle.svf_parse.specs.declared.text.End.TheVariants as end
use Rattle.svf_words.specs.Words.{Word, Groups, last, group, with_word, groups_of}
use Rattle.svf_parse.specs.Reading.{statement_says, at_statement, within_limit, groups_say}
use Rattle.svf_parse.specs.Judging.{◌>>=◌, Said, end_dr, end_ir, frequency, scan, states, trst}
use Rattle.svf_parse.specs.Judging as judging

abbrev pub said_of : Statement → Said
said_of (statement.EndDr s) = end_dr s
said_of (statement.EndIr s) = end_ir s
said_of (statement.Frequency p) = frequency p
said_of (statement.Scan which len tdi tdo mask smask) = scan which len tdi tdo mask smask
said_of (statement.RunTest run count min_ps max_ps end) = judging.run_test run count min_ps max_ps end
said_of (statement.States v) = states v.items
said_of (statement.Trst t) = trst t

-- unless memory ran out, the refusal is that of the definition
abbrev pub Fails : {Y : Type 0} → Refusal → Result Y Code → Type 0
Fails refusal.Memory says = ⊤
Fails (refusal.Code c) says = says ≡ Err c

-- a statement was added to a list as the words say, or they are refused so, unless memory ran out
abbrev pub Adds : {X : Type 0} → Result X Refusal → List Statement → List Statement → Result Said Code → Type 0
Adds (Ok x) old new says = (s : Statement) × (new ≡ old ++ s ∷ []) × (says ≡ Ok (said_of s))
Adds (Err e) old new says = Fails e says

-- unless memory ran out, the refusal of a text is that of the definition
abbrev pub Stops : {Y : Type 0} → Stop → Result Y SvfFault → Type 0
Stops stop.Memory says = ⊤
Stops (stop.Fault f) says = says ≡ Err f

-- what a function answered of a text is what the text says, unless memory ran out
abbrev pub Tells : {X Y : Type 0} → (X → Y) → Result X Stop → Result Y SvfFault → Type 0
Tells view (Ok x) says = says ≡ Ok (view x)
Tells view (Err e) says = Stops e says

-- want of memory, which may come at any point
abbrev pub memory_fault : SvfFault
memory_fault = record { statement = 0; code = NoMemory }

-- what `parse` answered is what the text says, unless memory ran out
abbrev pub Parses : Result (Vec Statement) SvfFault → Result (List Said) SvfFault → Type 0
Parses (Ok v) says = says ≡ Ok (map said_of v.items)
Parses (Err f) says = f ≢ memory_fault → says ≡ Err f

-- what stands at a lexer: the text's end, its fault, a `;`, or a word; and the lexer behind it
abbrev pub IsFront : Front → Groups → Type 0
IsFront front.Over groups = groups ≡ last [] None
IsFront (front.Broken e) groups = groups ≡ last [] (Some e)
IsFront (front.Empty after) groups = groups ≡ group [] (groups_of (left after))
IsFront (front.Word w after) groups = groups ≡ with_word w.now (groups_of (left after))

-- a statement is open: it ends at a `;` or at a fault, and not with the text
abbrev pub IsOpen : Groups → Type 0
IsOpen groups = (ws : List Word) → groups ≢ last ws None

-- how the words at a lexer end: at the text's fault, or at a `;`; and the lexer behind that
abbrev pub IsEnd : End → Groups → Type 0
IsEnd (end.Broken e) groups = (ws : List Word) × (groups ≡ last ws (Some e))
IsEnd (end.Closed after) groups = (ws : List Word) × (groups ≡ group ws (groups_of (left after)))

-- What became of statement n, whose first word stands before these groups: it was added to a list, and the lexer stands
-- behind its `;`; or it is refused.
abbrev pub Takes : ℕ → Word → Groups → Result Lexer Stop → List Statement → List Statement → Type 0
Takes n w groups (Ok after) old new =
    (ws : List Word) × (s : Statement) × (groups ≡ group ws (groups_of (left after))) × (new ≡ old ++ s ∷ [])
    × (at_statement n (within_limit n (statement_says (w ∷ ws))) ≡ Ok (said_of s))
Takes n w groups (Err e) old new = Stops e (groups_say n (with_word w groups))

-- a text at its first byte, or its refusal as a whole
abbrev pub Begins : Result Lexer SvfFault → Result (List Said) SvfFault → Type 0
Begins (Ok l) says = says ≡ groups_say 1 (groups_of (left l))
Begins (Err f) says = says ≡ Err f

-- groups without the first of them that have no words
abbrev pub from_words : Groups → Groups
from_words (last ws fault) = last ws fault
from_words (group [] groups) = from_words groups
from_words (group (w ∷ ws) groups) = group (w ∷ ws) groups

-- What became of the statement that stands next in these groups, with number n: it was added to a list, and the lexer
-- stands behind its `;`; or there is none, and the list is as before; or what they say is refused, unless memory ran
-- out.
abbrev pub IsNext : ℕ → Groups → Result (Option Lexer) SvfFault → List Statement → List Statement → Type 0
IsNext n groups (Ok (Some after)) old new =
    (w : Word) × (ws : List Word) × (s : Statement) × (from_words groups ≡ group (w ∷ ws) (groups_of (left after)))
    × (new ≡ old ++ s ∷ []) × (at_statement n (within_limit n (statement_says (w ∷ ws))) ≡ Ok (said_of s))
IsNext n groups (Ok None) old new = (from_words groups ≡ last [] None) × (new ≡ old)
IsNext n groups (Err f) old new = f ≢ memory_fault → groups_say n groups ≡ Err f
