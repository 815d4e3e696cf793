-- The first token of a statement that its command's form does not let stand there: what may stand behind what.
use Rattle.std.specs.Prelude.{ℕ, Bool, true, false, not, if◌then◌else◌, List, [], ◌∷◌, codes, Option, Some, None}
use Rattle.std.specs.Prelude.{is_some, Result, Ok, Err, option_and_then}
use Rattle.svf_lex.specs.declared.Kind.{Kind}
use Rattle.svf_lex.specs.declared.Kind.TheVariants as kind
use Rattle.svf_lex.specs.declared.LexFault.{LexFault}
use Rattle.svf_lex.specs.Cutting.{Lexeme}
use Rattle.svf_words.specs.declared.keywords.Command.{Command}
use Rattle.svf_words.specs.declared.keywords.Command.TheVariants as command
use Rattle.svf_words.specs.declared.keywords.FieldName.{FieldName}
use Rattle.svf_words.specs.declared.keywords.FieldName.TheVariants as field
use Rattle.svf_words.specs.Words.{Word, reads, is_open, is_close, is_number}
use Rattle.svf_words.specs.Keywords.{state_of, trst_of, field_of, clock_of}
use Rattle.refusal_places.specs.declared.misfits.Awaited.{Awaited}
use Rattle.refusal_places.specs.declared.misfits.Awaited.TheVariants as awaited
use Rattle.refusal_places.specs.declared.misfits.InRun.{InRun}
use Rattle.refusal_places.specs.declared.misfits.InRun.TheVariants as run
use Rattle.refusal_places.specs.declared.misfits.Given.{Given}

-- a field is given once at most
abbrev pub give : FieldName → Given → Option Given
give field.Tdi g = if g.tdi then None else Some (record g { tdi = true })
give field.Tdo g = if g.tdo then None else Some (record g { tdo = true })
give field.Mask g = if g.mask then None else Some (record g { mask = true })
give field.Smask g = if g.smask then None else Some (record g { smask = true })

abbrev pub none_given : Given
none_given = record { tdi = false; tdo = false; mask = false; smask = false }

-- what is awaited behind a word, if that fits
abbrev pub if_so : Bool → Awaited → Option Awaited
if_so fits next = if fits then Some next else None

-- [ENDSTATE state]
abbrev pub end_state : Word → Option Awaited
end_state w = if_so (reads w (codes "ENDSTATE")) awaited.LastState

-- [state] [number TCK or SCK] [number SEC [MAXIMUM number SEC]] [ENDSTATE state], at least one of the count and the
-- first time
abbrev pub behind_in_run : InRun → Word → Option Awaited
behind_in_run run.Start w =
    if is_some (state_of w) then Some (awaited.RunTest run.Count) else if_so (is_number w) (awaited.RunTest run.Unit)
behind_in_run run.Count w = if_so (is_number w) (awaited.RunTest run.Unit)
behind_in_run run.Unit w =
    if is_some (clock_of w) then Some (awaited.RunTest run.Time)
    else if_so (reads w (codes "SEC")) (awaited.RunTest run.Maximum)
behind_in_run run.Time w = if is_number w then Some (awaited.RunTest run.Seconds) else end_state w
behind_in_run run.Seconds w = if_so (reads w (codes "SEC")) (awaited.RunTest run.Maximum)
behind_in_run run.Maximum w = if reads w (codes "MAXIMUM") then Some (awaited.RunTest run.Most) else end_state w
behind_in_run run.Most w = if_so (is_number w) (awaited.RunTest run.MostSeconds)
behind_in_run run.MostSeconds w = if_so (reads w (codes "SEC")) (awaited.RunTest run.EndState)
behind_in_run run.EndState w = end_state w

-- what is awaited behind a word that stands where this is awaited; none where it does not fit
abbrev pub behind : Awaited → Word → Option Awaited
behind awaited.End w = None
behind awaited.LastState w = if_so (is_some (state_of w)) awaited.End
behind awaited.TrstWord w = if_so (is_some (trst_of w)) awaited.End
behind awaited.FirstState w = if_so (is_some (state_of w)) awaited.FurtherState
behind awaited.FurtherState w = if_so (is_some (state_of w)) awaited.FurtherState
behind awaited.Frequency w = if_so (is_number w) awaited.Hertz
behind awaited.Hertz w = if_so (reads w (codes "HZ")) awaited.End
behind awaited.Length w = if_so (is_number w) (awaited.Field none_given)
behind (awaited.Field g) w =
    option_and_then (λ h. Some (awaited.Opening h)) (option_and_then (λ f. give f g) (field_of w))
behind (awaited.Opening g) w = if_so (is_open w) (awaited.Digits g)
behind (awaited.Digits g) w = if is_close w then Some (awaited.Field g) else if_so (not (is_open w)) (awaited.Digits g)
behind (awaited.RunTest r) w = behind_in_run r w

-- what is awaited behind a command; of a parallel port anything is
abbrev pub behind_command : Command → Option Awaited
behind_command command.EndDr = Some awaited.LastState
behind_command command.EndIr = Some awaited.LastState
behind_command command.Frequency = Some awaited.Frequency
behind_command (command.Scan which) = Some awaited.Length
behind_command command.RunTest = Some (awaited.RunTest run.Start)
behind_command command.State = Some awaited.FirstState
behind_command command.Trst = Some awaited.TrstWord
behind_command command.Pio = None
behind_command command.PioMap = None

-- the statement may end here
abbrev pub may_end_in_run : InRun → Bool
may_end_in_run run.Time = true
may_end_in_run run.Maximum = true
may_end_in_run run.EndState = true
may_end_in_run _ = false

abbrev pub may_end : Awaited → Bool
may_end awaited.End = true
may_end awaited.FurtherState = true
may_end awaited.Frequency = true
may_end (awaited.Field g) = true
may_end (awaited.RunTest r) = may_end_in_run r
may_end _ = false

abbrev pub is_semi : Kind → Bool
is_semi kind.Semi = true
is_semi _ = false

-- what follows, or this offset
abbrev pub or_here : ℕ → Option Awaited → (Awaited → Option ℕ) → Option ℕ
or_here start None next = Some start
or_here start (Some a) next = next a

-- The offset of the first token that does not fit where this is awaited: a word, or the `;` of a statement that may not
-- end there.
abbrev pub misfit : Awaited → List (Result Lexeme LexFault) → Option ℕ
misfit a [] = None
misfit a (Err e ∷ items) = None
misfit a (Ok t ∷ items) =
    if is_semi t.kind then (if may_end a then None else Some t.start)
    else or_here t.start (behind a t.text) (λ b. misfit b items)
