use Rattle.std.proofs.Common.{◌≡◌, ◌-◌, ◌≤◌, ◌++◌, length, take, drop}
use Rattle.bitbang.specs.Left.{left, whole}
use Rattle.bitbang.proofs.step_bytes.StepBytes.fill.Given as goal

abbrev pub invariant-loop-count : goal.invariant-loop-count
invariant-loop-count l = record {
  room : l.count ≤ length l.initial.buffer;
  some : l.count ≤ length (left l.initial.self);
  filled : l.buffer ≡ take l.count (left l.initial.self) ++ drop l.count l.initial.buffer;
  rest : left l.self ≡ drop l.count (left l.initial.self);
  whole : whole l.self ≡ whole l.initial.self;
}

abbrev pub decreases-loop-count : goal.decreases-loop-count
decreases-loop-count l = length l.initial.buffer - l.count
