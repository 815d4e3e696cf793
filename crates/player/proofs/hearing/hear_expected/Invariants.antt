use Rattle.std.proofs.Common.{◌≤◌, ◌-◌}
use Rattle.scan_vectors.specs.Held.{bits}
use Rattle.svf_programs.specs.Sizes.{program_of}
use Rattle.player.specs.Taking.{TakesFirst, behind_answers}
use Rattle.player.specs.WordAhead.{IsAhead}
use Rattle.player.proofs.hearing.hear_expected.Given as goal

-- as many as were looked at are taken, and nothing else has changed
abbrev pub invariant-loop-count : goal.invariant-loop-count
invariant-loop-count l = record {
  ahead : IsAhead (bits l.vector) l.ahead;
  some : l.count ≤ l.p.owed;
  takes : TakesFirst (program_of l.program) l.p l.kept l.bytes (behind_answers l.p l.judged l.count) l.kept l.count;
}

abbrev pub decreases-loop-count : goal.decreases-loop-count
decreases-loop-count l = l.most - l.count
