use Rattle.std.proofs.Common.{◌≤◌, ◌-◌}
use Rattle.play_explained.specs.Passed.{IsAt}
use Rattle.play_explained.proofs.places.position_behind.Given as goal

abbrev pub invariant-loop-here : goal.invariant-loop-here
invariant-loop-here l = record { at : IsAt l.text l.here; ahead : l.here.count ≤ l.number }

abbrev pub decreases-loop-here : goal.decreases-loop-here
decreases-loop-here l = l.number - l.here.count
