use Rattle.std.proofs.Common.{◌≡◌, take}
use Rattle.std.specs.Io.KnownBytes.{Appends}
use Rattle.wave_files.specs.Extras.{extra_lines}
use Rattle.wave_files.specs.Values.{by_numbers, extras_of_device}
use Rattle.wave_files.proofs.extras.write_values.Given as goal

-- the values of the devices before the place are written
abbrev pub invariant-loop-i : goal.invariant-loop-i
invariant-loop-i g l = record {
  none_lost : l.out.failures ≡ 0;
  sent : Appends (g.W.Write.contents l.initial.out.inner) (g.W.Write.contents l.out.inner)
      (by_numbers (extra_lines l.extras) extras_of_device l.first (take l.i l.chain.chips));
}
