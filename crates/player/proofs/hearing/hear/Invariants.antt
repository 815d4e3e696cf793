use Rattle.std.proofs.Common.{◌-◌, length}
use Rattle.scan_vectors.specs.Held.{bits}
use Rattle.svf_programs.specs.Sizes.{program_of}
use Rattle.player.specs.Taking.{TakesFirst}
use Rattle.player.specs.WordAhead.{IsAhead}
use Rattle.player.proofs.hearing.hear.Given as goal

-- The first answers are taken, and none of them is taken again.
abbrev pub invariant-loop-count : goal.invariant-loop-count
invariant-loop-count l = record {
  ahead : IsAhead (bits l.vector) l.ahead;
  takes : TakesFirst (program_of l.program) l.fn.p l.fn.kept l.fn.bytes l.p l.kept l.count;
}

abbrev pub decreases-loop-count : goal.decreases-loop-count
decreases-loop-count l = length l.fn.bytes - l.count
