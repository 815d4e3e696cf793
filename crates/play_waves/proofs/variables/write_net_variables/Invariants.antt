use Rattle.std.proofs.Common.{◌≡◌, take}
use Rattle.std.specs.Io.KnownBytes.{Appends}
use Rattle.wave_files.specs.Heading.{net_variable}
use Rattle.wave_files.specs.Values.{by_numbers, first_of_nets}
use Rattle.play_waves.proofs.variables.write_net_variables.Given as goal

-- the variables of the nets before the place are written
abbrev pub invariant-loop-k : goal.invariant-loop-k
invariant-loop-k g l = record {
  none_lost : l.out.failures ≡ 0;
  sent : Appends (g.W.Write.contents l.initial.out.inner) (g.W.Write.contents l.out.inner)
      (by_numbers net_variable 1 (first_of_nets l.chain.chips) (take l.k l.chain.nets));
}
