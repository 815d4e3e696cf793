use Rattle.std.proofs.Common.{◌≡◌, drop}
use Rattle.play_drawing.specs.Shifted.{all_at}
use Rattle.play_drawing.proofs.drawing.shifting.all_at.Given as goal

-- all devices stand there if those from the place on do
abbrev pub invariant-loop-i : goal.invariant-loop-i
invariant-loop-i l = all_at l.state l.chain.chips ≡ all_at l.state (drop l.i l.chain.chips)
