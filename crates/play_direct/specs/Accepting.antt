-- Which texts are accepted as which programs (Serial Vector Format, revision E): first each statement by its form, then
-- by those before it.
use Rattle.std.specs.Prelude.{◌⊎◌, ℕ, List}
use Rattle.jt_limits.specs.declared.Limits.{Limits}
use Rattle.jt_limits.specs.Limits.{limits}
use Rattle.svf_words.specs.declared.fault.SvfFault.{SvfFault}
use Rattle.svf_parse.specs.Judging.{Said}
use Rattle.svf_parse.specs.Spelling.{TextSpells, TextSpellsWithin, TextRefuses}
use Rattle.svf_programs.specs.Steps.{Program}
use Rattle.svf_programs.specs.declared.periods.PeriodChange.{PeriodChange}
use Rattle.svf_settings.specs.Periods as periods
use Rattle.svf_settings.specs.Programs as settings

-- The text spells statements that are this program.
abbrev pub AcceptsWithin : Limits → List ℕ → Program → Type 0
AcceptsWithin l text p = (ss : List Said) × TextSpellsWithin l text ss × settings.ResolvesWithin l ss p

-- within the limits that stand
abbrev pub Accepts : List ℕ → Program → Type 0
Accepts text p = AcceptsWithin limits text p

-- What a program keeps of the periods of the statements that the text spells.
abbrev pub KeepsPeriodsOf : List ℕ → List PeriodChange → Type 0
KeepsPeriodsOf text kept = (ss : List Said) → TextSpells text ss → periods.KeepsPeriods ss kept

-- The text has a first refusal by its form; or it spells statements, and these have it.
abbrev pub Refuses : List ℕ → SvfFault → Type 0
Refuses text fault = TextRefuses text fault ⊎ ((ss : List Said) × TextSpells text ss × settings.Refuses ss fault)
