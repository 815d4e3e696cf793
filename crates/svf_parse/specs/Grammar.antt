-- The grammar of one statement: which words are which form. Nothing here reads from left to right.
use Rattle.std.specs.Prelude.{⊤}
use Rattle.std.specs.Prelude.{◌≡◌, ◌↔◌, ℕ, ◌<◌, ◌⊎◌, IsSome, true, false, List, [], ◌∷◌, ◌++◌, length, codes}
use Rattle.std.specs.Prelude.{Option, Some, None}
use Rattle.std.specs.List.{flat_map, AllByRecursion}
use Rattle.jt_tap.specs.declared.State.{State}
use Rattle.jt_tap.specs.Words as states
use Rattle.svf_words.specs.declared.keywords.Command.{Command}
use Rattle.svf_words.specs.declared.keywords.FieldName.{FieldName}
use Rattle.svf_words.specs.declared.keywords.Clock.{Clock}
use Rattle.svf_words.specs.Words.{Word, reads, is_open, is_close, is_number}
use Rattle.svf_words.specs.Keywords.{command_word, scan_word, field_word, clock_word, trst_word}
use Rattle.svf_parse.specs.Fields.{Fields, no_fields, put}
use Rattle.svf_parse.specs.RunTests.{RunTest}
use Rattle.svf_parse.specs.Forms.{Form, end_dr_form, end_ir_form, frequency_form, scan_form, run_test_form, states_form}
use Rattle.svf_parse.specs.Forms.{trst_form, port_form, form_of}

-- the word is this keyword, in any case
abbrev pub Reads : Word → List ℕ → Type 0
Reads w keyword = reads w keyword ≡ true

-- the word stands for a number
abbrev pub IsNumber : Word → Type 0
IsNumber w = is_number w ≡ true

-- the words are these states
abbrev pub AreStates : List Word → List State → Type 0
AreStates [] [] = ⊤
AreStates [] (s ∷ ss) = ⊥
AreStates (w ∷ ws) [] = ⊥
AreStates (w ∷ ws) (s ∷ ss) = Reads w (states.word s) × AreStates ws ss

-- a word that is no bracket
abbrev pub IsRun : Word → Type 0
IsRun w = (is_open w ≡ false) × (is_close w ≡ false)

-- a field: its name, `(`, runs that join to its digits, `)`
abbrev pub IsField : List Word → FieldName → List ℕ → Type 0
IsField ws f digits =
    (name opener closer : Word) × (runs : List Word) × (ws ≡ name ∷ opener ∷ runs ++ closer ∷ [])
    × Reads name (field_word f) × (is_open opener ≡ true) × (is_close closer ≡ true) × AllByRecursion IsRun runs
    × (digits ≡ flat_map (λ w. w) runs)

-- the words are fields, in any order, each at most once: put one by one they give these
abbrev pub AreFields : List Word → List (FieldName × List ℕ) → Fields → Fields → Type 0
AreFields ws [] old new = (ws ≡ []) × (old ≡ new)
AreFields ws (f ∷ fs) old new =
    (front rest : List Word) × (next : Fields) × (ws ≡ front ++ rest) × IsField front f.0 f.1
    × (put f.0 f.1 old ≡ Some next) × AreFields rest fs next new

-- ---- the parts of a RUNTEST: each is absent or stands as these words

-- state
abbrev pub IsState : Option State → List Word → Type 0
IsState None ws = ws ≡ []
IsState (Some s) ws = (w : Word) × (ws ≡ w ∷ []) × Reads w (states.word s)

-- number TCK, or number SCK
abbrev pub IsCount : Option (Word × Clock) → List Word → Type 0
IsCount None ws = ws ≡ []
IsCount (Some c) ws = (u : Word) × (ws ≡ c.0 ∷ u ∷ []) × IsNumber c.0 × Reads u (clock_word c.1)

-- number SEC
abbrev pub IsTime : Option Word → List Word → Type 0
IsTime None ws = ws ≡ []
IsTime (Some n) ws = (u : Word) × (ws ≡ n ∷ u ∷ []) × IsNumber n × Reads u (codes "SEC")

-- MAXIMUM number SEC
abbrev pub IsMaximum : Option Word → List Word → Type 0
IsMaximum None ws = ws ≡ []
IsMaximum (Some n) ws = (k : Word) × (time : List Word) × (ws ≡ k ∷ time) × Reads k (codes "MAXIMUM")
    × IsTime (Some n) time

-- ENDSTATE state
abbrev pub IsEnd : Option State → List Word → Type 0
IsEnd None ws = ws ≡ []
IsEnd (Some s) ws = (k w : Word) × (ws ≡ k ∷ w ∷ []) × Reads k (codes "ENDSTATE") × Reads w (states.word s)

-- a count or a time is given, and a maximum only with a time
abbrev pub IsWhole : RunTest → Type 0
IsWhole r = (IsSome r.count ⊎ IsSome r.min) × (IsSome r.max → IsSome r.min)

-- the words are these parts in order
abbrev pub IsRunTest : List Word → RunTest → Type 0
IsRunTest ws r =
    (state count time maximum end : List Word) × (ws ≡ state ++ (count ++ (time ++ (maximum ++ end))))
    × IsState r.run state × IsCount r.count count × IsTime r.min time × IsMaximum r.max maximum × IsEnd r.end end
    × IsWhole r

-- ---- the words of each form

abbrev pub IsForm : List Word → Form → Type 0
IsForm ws (end_dr_form s) = (k w : Word) × (ws ≡ k ∷ w ∷ []) × Reads k (codes "ENDDR") × Reads w (states.word s)
IsForm ws (end_ir_form s) = (k w : Word) × (ws ≡ k ∷ w ∷ []) × Reads k (codes "ENDIR") × Reads w (states.word s)
IsForm ws (frequency_form None) = (k : Word) × (ws ≡ k ∷ []) × Reads k (codes "FREQUENCY")
IsForm ws (frequency_form (Some n)) = (k u : Word) × (ws ≡ k ∷ n ∷ u ∷ []) × Reads k (codes "FREQUENCY") × IsNumber n
    × Reads u (codes "HZ")
IsForm ws (scan_form which n fs) =
    (k : Word) × (xs : List Word) × (given : List (FieldName × List ℕ)) × (ws ≡ k ∷ n ∷ xs) × Reads k (scan_word which)
    × IsNumber n × AreFields xs given no_fields fs
IsForm ws (run_test_form r) = (k : Word) × (xs : List Word) × (ws ≡ k ∷ xs) × Reads k (codes "RUNTEST") × IsRunTest xs r
IsForm ws (states_form ss) = (k : Word) × (xs : List Word) × (ws ≡ k ∷ xs) × Reads k (codes "STATE") × (0 < length ss)
    × AreStates xs ss
IsForm ws (trst_form t) = (k w : Word) × (ws ≡ k ∷ w ∷ []) × Reads k (codes "TRST") × Reads w (trst_word t)
IsForm ws port_form = (k : Word) × (xs : List Word) × (ws ≡ k ∷ xs) × (Reads k (codes "PIO") ⊎ Reads k (codes "PIOMAP"))

-- The law that the words behind a command are read as a form exactly where all of them have it.
abbrev pub FormsAreReadAsTheyAreWritten : Type 0
FormsAreReadAsTheyAreWritten = (k : Word) (xs : List Word) (c : Command) (f : Form) → Reads k (command_word c)
    → IsForm (k ∷ xs) f ↔ (form_of c xs ≡ Some f)

-- the first word is a command's
abbrev pub HasCommand : List Word → Type 0
HasCommand [] = ⊥
HasCommand (w ∷ ws) = (k : Command) × Reads w (command_word k)
