use Rattle.std.proofs.Common.{◌≡◌, ◌≤◌}
use Rattle.std.specs.Io.KnownBytes.{Appends}
use Rattle.play_drawing.specs.Drawing.{after_drawing, draw}
use Rattle.play_drawing.specs.Settled.{IsSettled}
use Rattle.play_drawing.proofs.Cycles.{cycles_of}
use Rattle.play_drawing.proofs.steps.draw_rest.Given as goal

-- so many cycles are drawn, and the pen is settled still
abbrev pub invariant-loop-i : goal.invariant-loop-i
invariant-loop-i g l = record {
  within : l.i ≤ l.times;
  none_lost : l.out.failures ≡ 0;
  sent : Appends (g.W.Write.contents l.initial.out.inner) (g.W.Write.contents l.out.inner)
      (draw l.period (cycles_of l.cycle l.i) l.initial.drawing);
  pen : l.drawing ≡ after_drawing l.period (cycles_of l.cycle l.i) l.initial.drawing;
  settled : IsSettled l.cycle l.drawing;
}
