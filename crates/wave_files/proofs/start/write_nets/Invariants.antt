use Rattle.std.proofs.Common.{◌≡◌, take}
use Rattle.std.specs.Io.KnownBytes.{Appends}
use Rattle.wave_files.specs.Heading.{net_line}
use Rattle.wave_files.specs.Values.{by_numbers, first_of_nets}
use Rattle.wave_files.proofs.start.write_nets.Given as goal

-- what the nets before the place show is written
abbrev pub invariant-loop-k : goal.invariant-loop-k
invariant-loop-k g l = record {
  none_lost : l.out.failures ≡ 0;
  sent : Appends (g.W.Write.contents l.initial.out.inner) (g.W.Write.contents l.out.inner)
      (by_numbers (net_line l.chain.nets l.chain.chips) 1 (first_of_nets l.chain.chips) (take l.k l.chain.nets));
}
