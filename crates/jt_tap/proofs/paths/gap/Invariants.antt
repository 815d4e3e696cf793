use Rattle.std.proofs.Common.{◌≡◌, ◌+◌, drop}
use Rattle.std.specs.Prelude.{option_map}
use Rattle.jt_tap.specs.Stated.{first_gap}
use Rattle.jt_tap.proofs.paths.gap.Given as goal

abbrev pub invariant-loop-place : goal.invariant-loop-place
invariant-loop-place l = first_gap l.fn.from l.path ≡ option_map (λ k. k + l.place) (first_gap l.before (drop l.place l.path))
