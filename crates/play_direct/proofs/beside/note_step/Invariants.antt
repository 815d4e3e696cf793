use Rattle.std.proofs.Common.{◌≡◌, ◌++◌, List, ℕ, length}
use Rattle.bitbang.specs.Left.{left}
use Rattle.bitbang.specs.StepMessages.{step_bytes}
use Rattle.svf_programs.specs.Seen.{step}
use Rattle.play_direct.specs.Noting.{Notes}
use Rattle.play_direct.proofs.beside.note_step.Given as goal

-- what was noted so far is the front of the step's bytes
abbrev pub invariant-loop-bytes : goal.invariant-loop-bytes
invariant-loop-bytes g l = record {
  sent : List ℕ;
  split : step_bytes l.fn.place (step l.fn.step.what) ≡ sent ++ left l.bytes;
  notes : Notes g.W.Write.contents l.fn.out l.out sent;
}

abbrev pub decreases-loop-bytes : goal.decreases-loop-bytes
decreases-loop-bytes g l = length (left l.bytes)
