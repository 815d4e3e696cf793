use Rattle.std.proofs.Common.{◌≡◌, take}
use Rattle.std.specs.Io.KnownBytes.{Appends}
use Rattle.wave_files.specs.Changes.{net_change}
use Rattle.wave_files.specs.Values.{by_numbers, first_of_nets}
use Rattle.wave_files.proofs.changes.write_net_changes.Given as goal

-- the changes of the nets before the place are written
abbrev pub invariant-loop-k : goal.invariant-loop-k
invariant-loop-k g l = record {
  none_lost : l.out.failures ≡ 0;
  sent : Appends (g.W.Write.contents l.initial.out.inner) (g.W.Write.contents l.out.inner)
      (by_numbers (net_change l.behind.nets l.behind.chips l.ahead.chips) 1 (first_of_nets l.behind.chips) (take l.k l.behind.nets));
}
