use Rattle.std.proofs.Common.{◌≡◌, ◌++◌, List, length}
use Rattle.std.specs.Prelude.{flat_map}
use Rattle.std.specs.Io.KnownBytes.{Appends}
use Rattle.bitbang_protocol.specs.declared.Cycle.{Cycle}
use Rattle.bitbang_protocol.specs.Protocol.{cycle_messages}
use Rattle.tck_cycles.specs.Sources.{left}
use Rattle.play_drawing.specs.Drawing.{after_drawing, draw}
use Rattle.play_drawing.proofs.steps.draw_source.Given as goal

-- the cycles before those that are left are drawn
abbrev pub invariant-loop-source : goal.invariant-loop-source
invariant-loop-source g l = record {
  past : List Cycle;
  split : left l.fn.source ≡ past ++ left l.source;
  none_lost : l.out.failures ≡ 0;
  sent : Appends (g.W.Write.contents l.fn.out.inner) (g.W.Write.contents l.out.inner)
      (draw l.period (flat_map cycle_messages past) l.fn.drawing);
  pen : l.drawing ≡ after_drawing l.period (flat_map cycle_messages past) l.fn.drawing;
}

abbrev pub decreases-loop-source : goal.decreases-loop-source
decreases-loop-source g l = length (left l.source)
