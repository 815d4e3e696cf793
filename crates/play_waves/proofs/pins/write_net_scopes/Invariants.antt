use Rattle.std.proofs.Common.{◌≡◌, take}
use Rattle.std.specs.Io.KnownBytes.{Appends}
use Rattle.wave_files.specs.Heading.{net_scopes}
use Rattle.play_waves.proofs.PinLaws.{pins_before}
use Rattle.play_waves.proofs.pins.write_net_scopes.Given as goal

-- the scopes of the nets before the place are written, and the next net's pins stand behind theirs
abbrev pub invariant-loop-k : goal.invariant-loop-k
invariant-loop-k g l = record {
  none_lost : l.out.failures ≡ 0;
  place : l.pin ≡ pins_before l.chain.nets l.k;
  sent : Appends (g.W.Write.contents l.initial.out.inner) (g.W.Write.contents l.out.inner) (net_scopes l.chain.chips l.first (take l.k l.chain.nets));
}
