use Rattle.std.proofs.Common.{◌≡◌}
use Rattle.svf_programs.specs.Left.{left}
use Rattle.play_explained.specs.Wanted as wanted
use Rattle.play_explained.proofs.wanted.wanted_of.Given as goal

-- what the steps that are left want of it
abbrev pub invariant-loop-step : goal.invariant-loop-step
invariant-loop-step l = wanted.wanted_of (left l.step-iterator) l.failure ≡ wanted.wanted_of l.program.steps l.failure
