-- Larger limits accept more, and what lies within limits is accepted within them.
use Rattle.std.proofs.Common.{◌≤◌, ℕ, List, [], ◌∷◌, Option, Some, None, arith}
use Rattle.std.specs.List.{AllByRecursion}
use Rattle.jt_limits.specs.declared.Limits.{Limits}
use Rattle.jt_limits.specs.Limits.{IsAtMost, earlier_limits, limits}
use Rattle.svf_parse.specs.Judging.{Said, end_dr, end_ir, frequency, scan, run_test, states, trst}
use Rattle.svf_parse.specs.Within.{IsAtMostIfGiven, SaidWithin, TextWithin}
use Rattle.svf_parse.proofs.WithinLaws as parsing
use Rattle.svf_programs.specs.Steps.{Step, Scan, Go, Path, Run, Trst, Numbered, Program}
use Rattle.svf_programs.specs.Sound.{StepWithin, StepsWithin}
use Rattle.svf_settings.proofs.WithinLaws as settings
use Rattle.play_direct.specs.Within.{AcceptedLiesWithin, EarlierTextsAreAccepted, LargerLimitsAcceptMore, LiesWithin, WhatLiesWithinIsAccepted}

pub accepted_lies : AcceptedLiesWithin
accepted_lies l text p h = record {
  statements = parsing.spelled_within l text h.0 h.1;
  steps = settings.resolved_within l h.0 p h.2;
}

pub lies_accepted : WhatLiesWithinIsAccepted
lies_accepted a b text p h within =
    (h.0, parsing.lies_within a b text h.0 h.1 within.statements, settings.lies_within a b h.0 p h.2 within.steps)

-- ---- larger limits

if_given : (m n : ℕ) → m ≤ n → (o : Option ℕ) → IsAtMostIfGiven m o → IsAtMostIfGiven n o
if_given m n h None few = tt
if_given m n h (Some k) few = omega (arith, h, few)

said_more : (a b : Limits) → IsAtMost a b → (s : Said) → SaidWithin a s → SaidWithin b s
said_more a b h (end_dr s) within = tt
said_more a b h (end_ir s) within = tt
said_more a b h (frequency p) within = if_given a.picoseconds b.picoseconds h.picoseconds p within
said_more a b h (scan which n tdi tdo mask smask) within = omega (arith, h.scan_bits, within)
said_more a b h (run_test run count min max end) within = (
  if_given a.cycles b.cycles h.cycles count within.0,
  (if_given a.picoseconds b.picoseconds h.picoseconds min within.1.0, if_given a.picoseconds b.picoseconds h.picoseconds max within.1.1),
)
said_more a b h (states path) within = tt
said_more a b h (trst w) within = tt

step_more : (a b : Limits) → IsAtMost a b → (s : Step) → StepWithin a s → StepWithin b s
step_more a b h (Scan column v end) within = omega (arith, h.vector_bits, within)
step_more a b h (Go s) within = tt
step_more a b h (Path path) within = tt
step_more a b h (Run run n end) within = omega (arith, h.cycles, within)
step_more a b h (Trst w) within = tt

each : {A : Type 0} (P Q : A → Type 0) → ((x : A) → P x → Q x) → (xs : List A) → AllByRecursion P xs → AllByRecursion Q xs
each P Q f [] h = tt
each P Q f (x ∷ xs) h = (f x h.0, each P Q f xs h.1)

abbrev numbered_within : Limits → Numbered → Type 0
numbered_within l s = StepWithin l s.what

lies_more : (a b : Limits) → IsAtMost a b → (text : List ℕ) (ss : List Said) (p : Program) → LiesWithin a text ss p → LiesWithin b text ss p
lies_more a b h text ss p within = record {
  statements = record {
    bytes = omega (arith, h.text_bytes, within.statements.bytes);
    count = omega (arith, h.statements, within.statements.count);
    each = each (SaidWithin a) (SaidWithin b) (said_more a b h) ss within.statements.each;
  };
  steps = each (numbered_within a) (numbered_within b) (λ s. step_more a b h s.what) p.steps within.steps;
}

pub larger_accept : LargerLimitsAcceptMore
larger_accept a b h text p accepts = lies_accepted b a text p accepts (lies_more a b h text accepts.0 p (accepted_lies a text p accepts))

lower : IsAtMost earlier_limits limits
lower = record {
  text_bytes = omega arith;
  statements = omega arith;
  scan_bits = omega arith;
  vector_bits = omega arith;
  cycles = omega arith;
  picoseconds = omega arith;
  description_bytes = omega arith;
  instruction_bits = omega arith;
  instructions = omega arith;
  cells = omega arith;
  port_bits = omega arith;
  user_registers = omega arith;
  user_bits = omega arith;
  devices = omega arith;
  nets = omega arith;
}

pub earlier_accepted : EarlierTextsAreAccepted
earlier_accepted text p accepts = larger_accept earlier_limits limits lower text p accepts
