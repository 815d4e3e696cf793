use Rattle.std.proofs.Common.{◌≡◌, drop}
use Rattle.play_drawing.specs.Drawing.{is_resting}
use Rattle.play_drawing.proofs.marks.rests.Given as goal

-- all devices rest if those from the place on do
abbrev pub invariant-loop-i : goal.invariant-loop-i
invariant-loop-i l = is_resting l.chain.chips ≡ is_resting (drop l.i l.chain.chips)
