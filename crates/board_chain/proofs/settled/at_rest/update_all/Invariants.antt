use Rattle.std.proofs.Common.{◌≡◌, false}
use Rattle.board_model.specs.Whole.{update_member}
use Rattle.board_chain.specs.AtRest.{Changes}
use Rattle.board_chain.specs.Sweeping.{Still}
use Rattle.board_chain.proofs.SweepLaws.{Swept}
use Rattle.board_chain.proofs.settled.at_rest.update_all.Given as goal

abbrev pub invariant-loop-chip : goal.invariant-loop-chip
invariant-loop-chip l = record {
  devices : Swept (Changes (update_member l.column)) l.chip-index l.initial.chips l.chips;
  still : l.anew ≡ false → Swept Still l.chip-index l.initial.chips l.chips;
}
