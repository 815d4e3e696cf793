-- Which texts are accepted hangs on the limits only by whether they, their statements and their steps lie within them.
use Rattle.std.specs.Prelude.{ℕ, List}
use Rattle.jt_limits.specs.declared.Limits.{Limits}
use Rattle.jt_limits.specs.Limits.{IsAtMost, earlier_limits}
use Rattle.svf_parse.specs.Judging.{Said}
use Rattle.svf_parse.specs.Within.{TextWithin}
use Rattle.svf_programs.specs.Steps.{Program}
use Rattle.svf_programs.specs.Sound.{StepsWithin}
use Rattle.play_direct.specs.Accepting.{Accepts, AcceptsWithin}

-- the text, these statements of it and their program lie within these limits
pub record LiesWithin (l : Limits) (text : List ℕ) (ss : List Said) (p : Program) : Type 0 where
  pub statements : TextWithin l text ss
  pub steps : StepsWithin l p.steps

-- a text that is accepted within limits lies within them
abbrev pub AcceptedLiesWithin : Type 0
AcceptedLiesWithin = (l : Limits) (text : List ℕ) (p : Program) (h : AcceptsWithin l text p)
    → LiesWithin l text h.0 p

-- a text that is accepted within some limits and lies within others is accepted within those, with the same program
abbrev pub WhatLiesWithinIsAccepted : Type 0
WhatLiesWithinIsAccepted = (a b : Limits) (text : List ℕ) (p : Program) (h : AcceptsWithin b text p)
    → LiesWithin a text h.0 p → AcceptsWithin a text p

-- a text that is accepted within limits is accepted within larger ones, with the same program
abbrev pub LargerLimitsAcceptMore : Type 0
LargerLimitsAcceptMore = (a b : Limits) → IsAtMost a b → (text : List ℕ) (p : Program) → AcceptsWithin a text p
    → AcceptsWithin b text p

-- each text that the earlier limits accepted is accepted, with the same program
abbrev pub EarlierTextsAreAccepted : Type 0
EarlierTextsAreAccepted = (text : List ℕ) (p : Program) → AcceptsWithin earlier_limits text p → Accepts text p
