-- What periods, times and counts are, as a reader would say it, and when a number has none. A number is told in units
-- of 10 ^ -36, of which each number within the limits is a whole count: f hertz are f * 10 ^ 36 units, t seconds
-- t * 10 ^ 36.
use Rattle.std.specs.Prelude.{◌≡◌, ◌≢◌, ℕ, ◌*◌, ◌^◌, ◌≤◌, ◌<◌, MatchResult, Result}
use Rattle.jt_limits.specs.Limits.{limits}
use Rattle.svf_words.specs.declared.fault.Code.{Code}
use Rattle.svf_words.specs.declared.fault.Code.TheVariants.{BadNumber, TooLarge}
use Rattle.svf_words.specs.Numbers.{count_of, period_of, picosecond_units, terahertz_units, time_of, whole_units}

-- the least whole number of something
pub record IsLeast (Holds : ℕ → Type 0) (n : ℕ) : Type 0 where
  pub holds : Holds n
  pub least : (m : ℕ) → Holds m → n ≤ m

-- A period is the least whole number of picoseconds that, times the frequency, is at least a second: 10 ^ 12
-- picoseconds. It is within the limit.
abbrev pub IsPeriod : ℕ → ℕ → Type 0
IsPeriod units p = IsLeast (λ n. terahertz_units ≤ n * units) p × (p ≤ limits.picoseconds)

-- 0 hertz have none; and even the most picoseconds are not enough
abbrev pub HasNoPeriod : ℕ → Code → Type 0
HasNoPeriod units BadNumber = units ≡ 0
HasNoPeriod units TooLarge = units ≢ 0 × (limits.picoseconds * units < terahertz_units)
HasNoPeriod units _ = ⊥

-- A time is the least whole number of picoseconds that is not below it, within the limit.
abbrev pub IsTime : ℕ → ℕ → Type 0
IsTime units t = IsLeast (λ n. units ≤ n * picosecond_units) t × (t ≤ limits.picoseconds)

-- it is more picoseconds than that
abbrev pub HasNoTime : ℕ → Code → Type 0
HasNoTime units TooLarge = limits.picoseconds * picosecond_units < units
HasNoTime units _ = ⊥

-- A count is the number itself, within the limit of cycles.
abbrev pub IsCount : ℕ → ℕ → Type 0
IsCount units n = units ≡ n * whole_units × (n ≤ limits.cycles)

-- it is not whole; or it is more
abbrev pub HasNoCount : ℕ → Code → Type 0
HasNoCount units BadNumber = (n : ℕ) → units ≢ n * whole_units
HasNoCount units TooLarge = (n : ℕ) × units ≡ n * whole_units × (limits.cycles < n)
HasNoCount units _ = ⊥

-- each number has what it is read as, or none for the reason that is told
abbrev pub IsExact : (ℕ → Result ℕ Code) → (ℕ → ℕ → Type 0) → (ℕ → Code → Type 0) → Type 0
IsExact says Is HasNone = (units : ℕ) → MatchResult (says units) (Is units) (HasNone units)

abbrev pub PeriodsAreLeast : Type 0
PeriodsAreLeast = IsExact period_of IsPeriod HasNoPeriod

abbrev pub TimesAreLeast : Type 0
TimesAreLeast = IsExact time_of IsTime HasNoTime

abbrev pub CountsAreWhole : Type 0
CountsAreWhole = IsExact count_of IsCount HasNoCount
