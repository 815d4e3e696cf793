-- A reader of statements, between two of them.
use Rattle.std.specs.Prelude.{⊤}
use Rattle.std.specs.Prelude.{◌≡◌, ◌≢◌, ℕ, List, [], ◌∷◌, ◌++◌, map, option_map, reverse, Option, Some, None, Result}
use Rattle.std.specs.Prelude.{Ok, Err}
use Rattle.svf_words.specs.declared.fault.Code.{Code}
use Rattle.svf_words.specs.declared.fault.SvfFault.{SvfFault}
use Rattle.svf_parse.specs.Judging.{Said}
use Rattle.svf_parse.specs.declared.statement.Statement.{Statement}
use Rattle.svf_parse.specs.View.{memory_fault, said_of}
use Rattle.svf_programs.specs.declared.kept.Kept.{Kept}
use Rattle.svf_programs.specs.declared.kept.KeptStep.{KeptStep}
use Rattle.svf_programs.specs.declared.periods.PeriodChange.{PeriodChange}
use Rattle.svf_settings.specs.declared.reading.Makings.{Makings}
use Rattle.svf_settings.specs.declared.reading.Reader.{Reader}
use Rattle.svf_programs.specs.Steps.{Program}
use Rattle.svf_programs.specs.Sizes.{Holding, program_of}
use Rattle.svf_settings.specs.LookBack.{settings, place, step}
use Rattle.svf_settings.specs.Periods.{changes}
use Rattle.svf_settings.specs.Refusals.{refusal}
use Rattle.svf_settings.specs.Programs.{steps, first_refusal}
use Rattle.svf_programs.specs.Held.{numbered_in, step_in}
use Rattle.svf_settings.specs.Held.{settings_in, if_named, is_named}

-- a reader has the settings and the place behind these statements
pub record IsBehind (all past : List Said) (r : Reader) : Type 0 where
  pub settings : settings_in all r.running ≡ settings past
  pub place : r.place ≡ place past

-- it has taken a statement: it is behind it, with its step
pub record IsTaken (all past : List Said) (s : Said) (r : Reader) (made : Option Kept) : Type 0 where
  pub fine : refusal past s ≡ None
  pub behind : settings_in all r.running ≡ settings (s ∷ past)
  pub place : r.place ≡ place (s ∷ past)
  pub step : option_map (step_in all) made ≡ step (settings past) s

abbrev pub Takes : List Said → List Said → Said → Reader → Result (Option Kept) Code → Type 0
Takes all past s r (Ok made) = IsTaken all past s r made
Takes all past s r (Err code) = refusal past s ≡ Some code

-- the step of a statement with this number, if it made one
abbrev pub kept_as : ℕ → Option Kept → List KeptStep
kept_as n None = []
kept_as n (Some what) = record { number = n; what = what } ∷ []

-- the steps and the changes of all statements, or the first refusal, unless memory ran out
abbrev pub Keeps : List Said → Result Makings SvfFault → Type 0
Keeps all (Ok m) =
    (first_refusal (reverse all) ≡ None)
    × (map (numbered_in all) m.steps.items ≡ steps (reverse all))
    × (m.periods.items ≡ changes (reverse all))
Keeps all (Err fault) = fault ≢ memory_fault → first_refusal (reverse all) ≡ Some fault

-- what was answered is this, unless memory ran out
abbrev pub Answers : Result Holding SvfFault → Result Program SvfFault → Type 0
Answers (Ok p) says = says ≡ Ok (program_of p)
Answers (Err fault) says = fault ≢ memory_fault → says ≡ Err fault

-- ---- of statements that are not all kept

-- a reader behind these statements, their steps, and their changes of period
pub record IsAfter (all past : List Said) (r : Reader) (made : List KeptStep) (periods : List PeriodChange)
    : Type 0 where
  pub behind : IsBehind all past r
  pub fine : first_refusal past ≡ None
  pub steps_are : map (numbered_in all) made ≡ steps past
  pub periods_are : periods ≡ changes past

-- the same by the statements that are kept, whatever stands behind these
abbrev pub KeepsAfter : List Statement → List Said → Reader → List KeptStep → List PeriodChange → Type 0
KeepsAfter kept past r made periods = (more : List Said) → IsAfter (map said_of kept ++ more) past r made periods

-- The last statement behind those that are kept was taken, and is kept if it is named; or it is refused, unless memory
-- ran out.
abbrev pub TakesLast : {E : Type 0} → List Statement → Statement → List Said → Reader → List Statement → List KeptStep
    → List PeriodChange → Result (Option Code) E → Type 0
TakesLast front s past r kept made periods (Ok None) =
    KeepsAfter kept (said_of s ∷ past) r made periods
    × (kept ≡ front ++ if_named (is_named (settings past) (said_of s)) s)
TakesLast front s past r kept made periods (Ok (Some code)) = refusal past (said_of s) ≡ Some code
TakesLast front s past r kept made periods (Err e) = ⊤

-- a refusal by its form, if groups have one, and else this one
abbrev pub first_of : Result (List Said) SvfFault → SvfFault → SvfFault
first_of (Ok ss) fault = fault
first_of (Err form) fault = form
