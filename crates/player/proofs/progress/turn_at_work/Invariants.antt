use Rattle.std.proofs.Common.{◌≡◌}
use Rattle.svf_programs.specs.Sizes.{program_of}
use Rattle.player.specs.Progress.{IsProgressOf, ahead, state_of}
use Rattle.player.proofs.progress.turn_at_work.Given as goal

abbrev pub invariant-loop-next : goal.invariant-loop-next
invariant-loop-next l = record {
  stands : IsProgressOf l.program.steps l.p;
  same : state_of (program_of l.program) l.p ≡ state_of (program_of l.program) l.initial.p;
}

abbrev pub decreases-loop-next : goal.decreases-loop-next
decreases-loop-next l = ahead l.program.steps l.p
