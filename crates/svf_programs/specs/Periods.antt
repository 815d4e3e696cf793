-- The period of TCK at the statements of a program, by the changes that are kept of it.
use Rattle.std.specs.Prelude.{◌≡◌, ℕ, ◌+◌, ◌<◌, ◌≤◌, nat_lt, List, [], ◌∷◌, length, drop, Option, Some, None}
use Rattle.std.specs.Prelude.{if◌then◌else◌}
use Rattle.svf_programs.specs.declared.periods.PeriodChange.{PeriodChange}

-- the period of TCK in picoseconds where no frequency is given: that of 1 MHz
abbrev pub default_period : ℕ
default_period = 1000000

-- The period in force at the statement of a number, from this one on: that of the last change before it. The changes
-- stand in the order of their statements.
abbrev pub period_from : (now : ℕ) → List PeriodChange → (number : ℕ) → ℕ
period_from now [] number = now
period_from now (c ∷ changes) number = if nat_lt c.number number then period_from c.period changes number else now

abbrev pub period_in : List PeriodChange → (number : ℕ) → ℕ
period_in changes number = period_from default_period changes number

-- ---- changes that are passed one after another

-- so many are passed for the statement of this number, and this is the period behind them
abbrev pub IsAt : List PeriodChange → (number count now : ℕ) → Type 0
IsAt changes number count now =
    (n : ℕ) → number ≤ n → period_in changes n ≡ period_from now (drop count changes) n

-- the next change, if its statement stands before that of a number
abbrev pub FollowsAt : List PeriodChange → (count number : ℕ) → Option PeriodChange → Type 0
FollowsAt changes count number (Some c) =
    (count < length changes)
    × ((now n : ℕ) → number ≤ n
    → period_from now (drop count changes) n ≡ period_from c.period (drop (count + 1) changes) n)
FollowsAt changes count number None = (now : ℕ) → period_from now (drop count changes) number ≡ now
