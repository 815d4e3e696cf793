use Rattle.std.proofs.Common.{◌≡◌, ◌++◌, take}
use Rattle.jt_tap.proofs.paths.append.Given as goal

abbrev pub invariant-loop-state : goal.invariant-loop-state
invariant-loop-state l = l.path.items ≡ l.initial.path.items ++ take l.state-index l.states
