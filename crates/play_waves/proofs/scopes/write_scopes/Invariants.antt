use Rattle.std.proofs.Common.{◌≡◌, take}
use Rattle.std.specs.Io.KnownBytes.{Appends}
use Rattle.wave_files.specs.Heading.{extra_variables}
use Rattle.wave_files.specs.Values.{by_numbers, extras_of_device}
use Rattle.play_waves.proofs.scopes.write_scopes.Given as goal

-- the variables of the devices before the place are written
abbrev pub invariant-loop-i : goal.invariant-loop-i
invariant-loop-i g l = record {
  none_lost : l.out.failures ≡ 0;
  sent : Appends (g.W.Write.contents l.initial.out.inner) (g.W.Write.contents l.out.inner)
      (by_numbers (extra_variables l.extras) extras_of_device l.first (take l.i l.chain.chips));
}
