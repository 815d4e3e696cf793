-- The token at fault in a refused statement.
use Rattle.std.specs.Prelude.{ℕ, zero, suc, ◌+◌, ◌-◌, ◌*◌, ◌==◌, ◌&&◌, Bool, true, false, not, if◌then◌else◌, List, []}
use Rattle.std.specs.Prelude.{◌∷◌, codes, length, Option, Some, None, Result, Ok, Err, option_and_then}
use Rattle.std.specs.List.{list_all}
use Rattle.std.specs.Char.{is_ascii_hexdigit}
use Rattle.jt_bits.specs.Hex.{has_one_beyond}
use Rattle.jt_tap.specs.declared.State.{State}
use Rattle.jt_tap.specs.Controller.{is_stable}
use Rattle.jt_tap.specs.Stated.{follows}
use Rattle.svf_lex.specs.declared.Kind.{Kind}
use Rattle.svf_lex.specs.declared.Kind.TheVariants as kind
use Rattle.svf_lex.specs.declared.LexFault.{LexFault}
use Rattle.svf_lex.specs.Cutting.{Lexeme, items_of}
use Rattle.svf_words.specs.declared.fault.Code.{Code}
use Rattle.svf_words.specs.declared.fault.Code.TheVariants as code
use Rattle.svf_words.specs.declared.fault.SvfFault.{SvfFault}
use Rattle.svf_words.specs.declared.keywords.Command.{Command}
use Rattle.svf_words.specs.declared.keywords.Command.TheVariants as command
use Rattle.svf_words.specs.declared.keywords.Which.{Which}
use Rattle.svf_words.specs.declared.keywords.Which.TheVariants as which
use Rattle.svf_words.specs.Faults.{number}
use Rattle.svf_words.specs.Words.{Word, reads, is_number}
use Rattle.svf_words.specs.Keywords.{command_of, state_of}
use Rattle.svf_words.specs.Numbers.{period_says, time_says, count_says, len_says, len_value}
use Rattle.refusal_places.specs.Misfits.{behind_command, misfit, is_semi}
use Rattle.refusal_places.specs.Starts.{is_open_behind}

-- ---- what a token has against itself

abbrev pub refusal : {A : Type 0} → Result A Code → Option Code
refusal (Ok x) = None
refusal (Err c) = Some c

-- S8: a state that is not stable
abbrev pub unstable : Option State → Option Code
unstable None = None
unstable (Some s) = if is_stable s then None else Some code.BadState

abbrev pub state_fault : Word → Option Code
state_fault w = unstable (state_of w)

-- a scan of a register has a bit (S12)
abbrev pub is_register : Which → Bool
is_register which.Sdr = true
is_register which.Sir = true
is_register _ = false

-- the length of a scan
abbrev pub length_fault : Which → Result ℕ Code → Option Code
length_fault k (Err c) = Some c
length_fault k (Ok n) = if is_register k && n == 0 then Some code.EmptyScan else None

-- A word of a RUNTEST before this one: a number is a time before SEC, and else a count. There is no SCK (S13).
abbrev pub run_test_fault : Word → Word → Option Code
run_test_fault w next =
    if is_number w then (if reads next (codes "SEC") then refusal (time_says w) else refusal (count_says w))
    else if reads w (codes "SCK") then Some code.Unsupported
    else state_fault w

-- a word outside brackets, before this one: of a path the state before `;` alone has to be stable
abbrev pub word_fault : Command → Word → Word → Option Code
word_fault command.EndDr w next = state_fault w
word_fault command.EndIr w next = state_fault w
word_fault command.Frequency w next = if is_number w then refusal (period_says w) else None
word_fault (command.Scan k) w next = if is_number w then length_fault k (len_says w) else None
word_fault command.RunTest w next = run_test_fault w next
word_fault command.State w next = if reads next (codes ";") then state_fault w else None
word_fault _ w next = None

-- A run of digits in a scan whose length has this value, before so many digits of its field: a digit is misspelt (S5),
-- or a 1 stands beyond the length (S6): bit j of the run is bit 4 * later + j of the field.
abbrev pub digits_fault : Option ℕ → Word → ℕ → Option Code
digits_fault len w later =
    if not (list_all is_ascii_hexdigit w) then Some code.BadNumber else wide len
  where
    wide : Option ℕ → Option Code
    wide None = None
    wide (Some n) = if has_one_beyond (n - 4 * later) w then Some code.TooWide else None

-- ---- the tokens of a statement

-- the word that stands next
abbrev pub next_word : List (Result Lexeme LexFault) → Word
next_word [] = []
next_word (Err e ∷ items) = []
next_word (Ok t ∷ items) = t.text

-- how many digits the runs have that stand next
abbrev pub with_run : Kind → ℕ → ℕ → ℕ
with_run kind.Run n more = n + more
with_run k n more = 0

abbrev pub digits_ahead : List (Result Lexeme LexFault) → ℕ
digits_ahead [] = 0
digits_ahead (Err e ∷ items) = 0
digits_ahead (Ok t ∷ items) = with_run t.kind (length t.text) (digits_ahead items)

-- whether brackets are open behind a token
abbrev pub is_inside_behind : Kind → Bool → Bool
is_inside_behind kind.Open inside = true
is_inside_behind kind.Close inside = false
is_inside_behind k inside = inside

-- a token of a statement of this command and length, within brackets or not, before these
abbrev pub token_fault : Command → Option ℕ → Bool → Lexeme → List (Result Lexeme LexFault) → Option Code
token_fault k len inside t items = by t.kind
  where
    by : Kind → Option Code
    by kind.Run = if inside then digits_fault len t.text (digits_ahead items) else word_fault k t.text (next_word items)
    by _ = None

abbrev pub is_number_of : Option Code → ℕ → Bool
is_number_of None n = false
is_number_of (Some c) n = number c == n

-- the first token of a statement that has the refusal of this number
abbrev pub first_with : ℕ → Command → Option ℕ → Bool → List (Result Lexeme LexFault) → Option ℕ
first_with n k len inside [] = None
first_with n k len inside (Err e ∷ items) = None
first_with n k len inside (Ok t ∷ items) =
    if is_semi t.kind then None
    else if is_number_of (token_fault k len inside t items) n then Some t.start
    else first_with n k len (is_inside_behind t.kind inside) items

-- how many bytes all tokens have
abbrev pub bytes_in : List (Result Lexeme LexFault) → ℕ
bytes_in [] = 0
bytes_in (Err e ∷ items) = 0
bytes_in (Ok t ∷ items) = length t.text + bytes_in items

-- ---- the token at fault

abbrev pub starts_statement : Bool → Kind → Bool
starts_statement true k = false
starts_statement false kind.Semi = false
starts_statement false k = true

-- the tokens from the first of the statement on that stands behind so many others
abbrev pub statement_behind : Bool → ℕ → List (Result Lexeme LexFault) → List (Result Lexeme LexFault)
statement_behind is_open others [] = []
statement_behind is_open others (Err e ∷ items) = []
statement_behind is_open others (Ok t ∷ items) =
    if starts_statement is_open t.kind
    then (if others == 0 then Ok t ∷ items else statement_behind true (others - 1) items)
    else statement_behind (is_open_behind t.kind) others items

-- S4
abbrev pub is_misfit : Code → Bool
is_misfit code.BadForm = true
is_misfit _ = false

-- S9
abbrev pub is_gap : Code → Bool
is_gap code.BadPath = true
is_gap _ = false

-- a state is one cycle from the one before, where both are states
abbrev pub may_follow : Option State → Option State → Bool
may_follow (Some s) (Some t) = follows s t
may_follow _ _ = true

-- the first state of a path that is not one cycle from the one before it
abbrev pub gap_behind : Option State → List (Result Lexeme LexFault) → Option ℕ
gap_behind before [] = None
gap_behind before (Err e ∷ items) = None
gap_behind before (Ok t ∷ items) =
    if is_semi t.kind then None
    else if may_follow before (state_of t.text) then gap_behind (state_of t.text) items
    else Some t.start

abbrev pub next_start : List (Result Lexeme LexFault) → Option ℕ
next_start [] = None
next_start (Err e ∷ items) = None
next_start (Ok t ∷ items) = Some t.start

-- that, or else the first state of the path, which is not one cycle from where the program rests
abbrev pub or_first : Option ℕ → List (Result Lexeme LexFault) → Option ℕ
or_first None items = next_start items
or_first (Some start) items = Some start

-- Where the token at fault stands in a statement of a command, whose tokens behind it these are: of S4 the first that
-- does not fit, of S9 the first state that is not one cycle from the one before, of the others the first that has the
-- refusal, if one has.
abbrev pub in_command : Code → Command → List (Result Lexeme LexFault) → Option ℕ
in_command c k items =
    if is_misfit c then option_and_then (λ a. misfit a items) (behind_command k)
    else if is_gap c then or_first (gap_behind None items) items
    else first_with (number c) k (len_value (next_word items)) false items

abbrev pub in_statement : Code → List (Result Lexeme LexFault) → Option ℕ
in_statement c [] = None
in_statement c (Err e ∷ items) = None
in_statement c (Ok t ∷ items) = option_and_then (λ k. in_command c k items) (command_of t.text)

-- where the token stands that is at fault in a refused text, if one token is
abbrev pub token_at_fault : List ℕ → SvfFault → Option ℕ
token_at_fault text f = by f.statement
  where
    by : ℕ → Option ℕ
    by zero = None
    by (suc others) = in_statement f.code (statement_behind false others (items_of text))
