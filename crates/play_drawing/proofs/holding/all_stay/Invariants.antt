use Rattle.std.proofs.Common.{◌≡◌, drop}
use Rattle.std.specs.List.{list_all}
use Rattle.play_drawing.specs.Holding.{stays}
use Rattle.play_drawing.proofs.holding.all_stay.Given as goal

-- all devices stay if those from the place on do
abbrev pub invariant-loop-i : goal.invariant-loop-i
invariant-loop-i l = list_all (stays l.trst l.tms) l.chain.chips ≡ list_all (stays l.trst l.tms) (drop l.i l.chain.chips)
