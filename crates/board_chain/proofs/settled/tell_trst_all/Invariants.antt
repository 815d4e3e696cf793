use Rattle.board_chain.specs.Sweeping.{TakesTrst}
use Rattle.board_chain.proofs.SweepLaws.{Swept}
use Rattle.board_chain.proofs.settled.tell_trst_all.Given as goal

abbrev pub invariant-loop-chip : goal.invariant-loop-chip
invariant-loop-chip l = Swept (TakesTrst l.trst) l.chip-index l.initial.chips l.chips
