use Rattle.std.proofs.Common.{◌≡◌, ◌++◌, ℕ, List, drop, length}
use Rattle.std.specs.Io.KnownBytes.{Appends}
use Rattle.scan_vectors.specs.Held.{bits}
use Rattle.scan_vectors.specs.Vector.{wanted_bits}
use Rattle.tck_cycles.specs.Sources.{left}
use Rattle.play_drawing.specs.Drawing.{after_drawing}
use Rattle.play_drawing.specs.Judging.{draw_judging}
use Rattle.play_drawing.specs.Notes.{no_note}
use Rattle.play_drawing.proofs.Judged.{closed_of}
use Rattle.play_drawing.proofs.judging.draw_told_cycles.Given as goal

-- what was written, and behind it what is told of the cycles that are left, is that of all
abbrev pub invariant-loop-cycle : goal.invariant-loop-cycle
invariant-loop-cycle g l = record {
  none_lost : l.out.failures ≡ 0;
  sent : List ℕ;
  writes : Appends (g.W.Write.contents l.fn.out.inner) (g.W.Write.contents l.out.inner) sent;
  split : draw_judging l.kind l.number l.period (closed_of (left l.fn.source)) (wanted_bits (bits l.vector)) no_note l.fn.drawing
      ≡ sent ++ draw_judging l.kind l.number l.period (closed_of (left l.source)) (wanted_bits (drop l.at (bits l.vector))) l.note l.drawing;
  pen : after_drawing l.period (closed_of (left l.fn.source)) l.fn.drawing ≡ after_drawing l.period (closed_of (left l.source)) l.drawing;
}

abbrev pub decreases-loop-cycle : goal.decreases-loop-cycle
decreases-loop-cycle g l = length (left l.source)
