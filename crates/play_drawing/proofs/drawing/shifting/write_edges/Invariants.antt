use Rattle.std.proofs.Common.{◌≡◌, ◌≤◌, ◌-◌, ◌++◌, ℕ, List}
use Rattle.std.specs.Io.KnownBytes.{Appends}
use Rattle.jt_bits.specs.Packed.{has_bit}
use Rattle.play_drawing.specs.Shifted.{edges_text, tdo_bit}
use Rattle.play_drawing.proofs.drawing.shifting.write_edges.Given as goal

-- what was written, and what is left
abbrev pub invariant-loop-j : goal.invariant-loop-j
invariant-loop-j g l = record {
  within : l.j ≤ l.lines.count;
  none_lost : l.out.failures ≡ 0;
  sent : List ℕ;
  split : edges_text l.period l.time (has_bit l.lines.tdi) (tdo_bit l.lines.tdo l.lines.count l.lines.last) 0 l.lines.count
      ≡ sent ++ edges_text l.period l.high (has_bit l.lines.tdi) (tdo_bit l.lines.tdo l.lines.count l.lines.last) l.j (l.lines.count - l.j);
  writes : Appends (g.W.Write.contents l.initial.out.inner) (g.W.Write.contents l.out.inner) sent;
}
