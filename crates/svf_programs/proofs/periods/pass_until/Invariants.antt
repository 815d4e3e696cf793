use Rattle.std.proofs.Common.{◌≤◌, ◌-◌, length}
use Rattle.svf_programs.specs.Periods.{IsAt}
use Rattle.svf_programs.proofs.periods.pass_until.Given as goal

-- the period is the one behind the changes that were passed
abbrev pub invariant-loop-change : goal.invariant-loop-change
invariant-loop-change l = record {
  at : IsAt l.changes l.here.number l.here.count l.here.period;
  ahead : l.here.number ≤ l.number;
}

abbrev pub decreases-loop-change : goal.decreases-loop-change
decreases-loop-change l = length l.changes - l.here.count
