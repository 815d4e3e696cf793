use Rattle.std.proofs.Common.{◌≡◌, false}
use Rattle.board_chain.specs.Sweeping.{Falls, Still}
use Rattle.board_chain.proofs.SweepLaws.{Swept}
use Rattle.board_chain.proofs.settled.fall_all.Given as goal

abbrev pub invariant-loop-chip : goal.invariant-loop-chip
invariant-loop-chip l = record {
  devices : Swept Falls l.chip-index l.initial.chips l.chips;
  still : l.anew ≡ false → Swept Still l.chip-index l.initial.chips l.chips;
}
