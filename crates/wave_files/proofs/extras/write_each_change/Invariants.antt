use Rattle.std.proofs.Common.{◌≡◌, take, zip}
use Rattle.std.specs.Io.KnownBytes.{Appends}
use Rattle.wave_files.specs.Extras.{extra_change}
use Rattle.wave_files.specs.Values.{by_numbers, extras_of_device}
use Rattle.wave_files.proofs.extras.write_each_change.Given as goal

-- the changes of the devices before the place are written
abbrev pub invariant-loop-i : goal.invariant-loop-i
invariant-loop-i g l = record {
  none_lost : l.out.failures ≡ 0;
  sent : Appends (g.W.Write.contents l.initial.out.inner) (g.W.Write.contents l.out.inner)
      (by_numbers (extra_change l.extras) extras_of_device l.first (take l.i (zip l.behind.chips l.ahead.chips)));
}
