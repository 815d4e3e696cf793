use Rattle.std.proofs.Common.{◌≡◌, take}
use Rattle.std.specs.Prelude.{flat_map}
use Rattle.std.specs.Io.KnownBytes.{Appends}
use Rattle.play_explained.specs.Lines.{failure_lines, lines_known}
use Rattle.play_explained.specs.Passed.{IsAt}
use Rattle.play_explained.proofs.telling.write_each.Given as goal

-- the lines of those before the place are written
abbrev pub invariant-loop-failure : goal.invariant-loop-failure
invariant-loop-failure g l = record {
  at : IsAt l.text l.passed;
  none_lost : l.out.failures ≡ 0;
  sent : Appends (g.W.Write.contents l.initial.out.inner) (g.W.Write.contents l.out.inner) (flat_map (failure_lines l.text (lines_known l.known)) (take l.failure-index l.list));
}
