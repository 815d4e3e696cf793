use Rattle.std.proofs.Common.{◌≤◌, ◌-◌, length, take}
use Rattle.svf_programs.specs.Sizes.{program_of}
use Rattle.board_plan.specs.View.{wiring}
use Rattle.board_faults.specs.Faults.{ways}
use Rattle.board_faults.specs.Judging.{JudgesEach}
use Rattle.play_coverage.specs.Told.{IsBench}
use Rattle.play_coverage.proofs.judging.judge_fault.Given as goal

-- the first ways are judged
abbrev pub invariant-loop-way : goal.invariant-loop-way
invariant-loop-way l = record {
  within : l.k ≤ length (ways l.fault);
  bench : IsBench (wiring l.plan) l.bench;
  judged : JudgesEach (program_of l.program) (wiring l.plan) (take l.k (ways l.fault)) l.ways.items;
}

abbrev pub decreases-loop-way : goal.decreases-loop-way
decreases-loop-way l = length (ways l.fault) - l.k
