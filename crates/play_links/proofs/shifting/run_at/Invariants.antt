use Rattle.std.proofs.Common.{◌-◌}
use Rattle.play_links.proofs.ShiftServes.{Runs}
use Rattle.play_links.proofs.shifting.run_at.Given as goal

abbrev pub invariant-loop-run : goal.invariant-loop-run
invariant-loop-run l = Runs l.run.tdi l.run.reads l.run.count l.bytes l.rest

abbrev pub decreases-loop-run : goal.decreases-loop-run
decreases-loop-run l = 64 - l.run.count
