use Rattle.std.proofs.Common.{◌≡◌, take}
use Rattle.std.specs.Io.KnownBytes.{Appends}
use Rattle.wave_files.specs.Heading.{device_variables}
use Rattle.wave_files.specs.Values.{by_numbers, first_of_devices, variables_of_device}
use Rattle.play_waves.proofs.variables.write_device_variables.Given as goal

-- the variables of the devices before the place are written
abbrev pub invariant-loop-i : goal.invariant-loop-i
invariant-loop-i g l = record {
  none_lost : l.out.failures ≡ 0;
  sent : Appends (g.W.Write.contents l.initial.out.inner) (g.W.Write.contents l.out.inner)
      (by_numbers device_variables variables_of_device first_of_devices (take l.i l.chain.chips));
}
