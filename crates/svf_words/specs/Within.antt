-- What numbers say hangs on the limits by one number alone.
use Rattle.std.specs.Prelude.{◌≡◌, ℕ, ◌≤◌, Result, Ok}
use Rattle.jt_limits.specs.declared.Limits.{Limits}
use Rattle.svf_words.specs.declared.fault.Code.{Code}
use Rattle.svf_words.specs.Words.{Word}
use Rattle.svf_words.specs.Numbers.{period_says_within, time_says_within, count_says_within, len_says_within}

-- What is said of a word is at most this number of the limits; and where it is at most that of other limits, it is said
-- by those too.
pub record IsLimitedBy (most : Limits → ℕ) (says : Limits → Word → Result ℕ Code) : Type 0 where
  pub bound : (l : Limits) (w : Word) (n : ℕ) → says l w ≡ Ok n → n ≤ most l
  pub kept : (a b : Limits) (w : Word) (n : ℕ) → says b w ≡ Ok n → n ≤ most a → says a w ≡ Ok n

abbrev pub PeriodsAreLimited : Type 0
PeriodsAreLimited = IsLimitedBy (λ l. l.picoseconds) period_says_within

abbrev pub TimesAreLimited : Type 0
TimesAreLimited = IsLimitedBy (λ l. l.picoseconds) time_says_within

abbrev pub CountsAreLimited : Type 0
CountsAreLimited = IsLimitedBy (λ l. l.cycles) count_says_within

abbrev pub LengthsAreLimited : Type 0
LengthsAreLimited = IsLimitedBy (λ l. l.scan_bits) len_says_within
