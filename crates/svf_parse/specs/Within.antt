-- Which statements and texts lie within limits, and that nothing else of the limits decides what is spelled.
use Rattle.std.specs.Prelude.{⊤}
use Rattle.std.specs.Prelude.{ℕ, ◌≤◌, List, length, Option, Some, None}
use Rattle.std.specs.List.{AllByRecursion}
use Rattle.jt_limits.specs.declared.Limits.{Limits}
use Rattle.svf_parse.specs.Judging.{Said, frequency, scan, run_test}
use Rattle.svf_parse.specs.Spelling.{TextSpellsWithin}

-- a number, if it is given, is at most this
abbrev pub IsAtMostIfGiven : ℕ → Option ℕ → Type 0
IsAtMostIfGiven most None = ⊤
IsAtMostIfGiven most (Some n) = n ≤ most

-- the numbers of a statement lie within these limits
abbrev pub SaidWithin : Limits → Said → Type 0
SaidWithin l (frequency period) = IsAtMostIfGiven l.picoseconds period
SaidWithin l (scan which n tdi tdo mask smask) = n ≤ l.scan_bits
SaidWithin l (run_test run count min max end) =
    IsAtMostIfGiven l.cycles count × (IsAtMostIfGiven l.picoseconds min × IsAtMostIfGiven l.picoseconds max)
SaidWithin l _ = ⊤

-- a text of these statements lies within these limits
pub record TextWithin (l : Limits) (text : List ℕ) (ss : List Said) : Type 0 where
  pub bytes : length text ≤ l.text_bytes
  pub count : length ss ≤ l.statements
  pub each : AllByRecursion (SaidWithin l) ss

-- what is spelled within limits lies within them
abbrev pub SpelledIsWithin : Type 0
SpelledIsWithin = (l : Limits) (text : List ℕ) (ss : List Said) → TextSpellsWithin l text ss → TextWithin l text ss

-- what is spelled within some limits and lies within others is spelled within those
abbrev pub WhatLiesWithinIsSpelled : Type 0
WhatLiesWithinIsSpelled = (a b : Limits) (text : List ℕ) (ss : List Said) → TextSpellsWithin b text ss
    → TextWithin a text ss → TextSpellsWithin a text ss
