-- The period of TCK at each statement, and the changes of it that a program keeps.
use Rattle.std.specs.Prelude.{◌≡◌, ℕ, ◌+◌, ◌-◌, ◌≤◌, ◌==◌, List, [], ◌∷◌, ◌++◌, length, reverse, take, Option, Some}
use Rattle.std.specs.Prelude.{None, Result, Ok, if◌then◌else◌}
use Rattle.svf_words.specs.declared.fault.SvfFault.{SvfFault}
use Rattle.svf_parse.specs.Judging.{Said}
use Rattle.svf_programs.specs.Periods.{default_period, period_in}
use Rattle.svf_programs.specs.declared.kept.Kept.{Kept}
use Rattle.svf_programs.specs.declared.periods.PeriodChange.{PeriodChange}
use Rattle.svf_settings.specs.LookBack.{period}

-- the period in force behind so many of the statements, in picoseconds
abbrev pub period_behind : List Said → ℕ → ℕ
period_behind all count = period (reverse (take count all))

-- the one in force at the statement of a number, counted from 1; of the opening, 0, the one of before
abbrev pub period_at : List Said → (number : ℕ) → ℕ
period_at all number = period_behind all (number - 1)

-- a change behind the statement of a number, if the period is another there than before it
abbrev pub change_made : (number before behind : ℕ) → List PeriodChange
change_made number before behind = if before == behind then [] else record { number = number; period = behind } ∷ []

-- the changes of statements, of which the nearest comes first: those of the others, then its own
abbrev pub changes : List Said → List PeriodChange
changes [] = []
changes (s ∷ before) = changes before ++ change_made (length before + 1) (period before) (period (s ∷ before))

-- What a program keeps of the periods of these statements: each change, so that it tells the period at each of them.
pub record KeepsPeriods (all : List Said) (kept : List PeriodChange) : Type 0 where
  pub changes_are : kept ≡ changes (reverse all)
  pub at : (number : ℕ) → period_in kept number ≡ period_at all number

-- the same of a text, by what it says
abbrev pub KeepsPeriodsOf : Result (List Said) SvfFault → List PeriodChange → Type 0
KeepsPeriodsOf says kept = (all : List Said) → says ≡ Ok all → KeepsPeriods all kept

-- The changes tell the period at each statement.
abbrev pub ChangesTellThePeriod : Type 0
ChangesTellThePeriod = (all : List Said) (number : ℕ) → period_in (changes (reverse all)) number ≡ period_at all number

-- There are no more changes than statements.
abbrev pub ChangesAreFew : Type 0
ChangesAreFew = (all : List Said) → length (changes (reverse all)) ≤ length all

-- ---- one statement more

-- the period behind some changes
abbrev pub last_period : (now : ℕ) → List PeriodChange → ℕ
last_period now [] = now
last_period now (c ∷ changes) = last_period c.period changes

-- The changes behind a statement of this number, by those before it, where the period is this behind it. A statement
-- that makes a step leaves it.
abbrev pub with_change : (made : Option Kept) → (number behind : ℕ) → List PeriodChange → List PeriodChange
with_change None number behind changes = changes ++ change_made number (last_period default_period changes) behind
with_change (Some what) number behind changes = changes
