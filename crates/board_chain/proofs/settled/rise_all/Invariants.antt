use Rattle.board_chain.specs.Sweeping.{Rises}
use Rattle.board_chain.proofs.SweepLaws.{Swept}
use Rattle.board_chain.proofs.settled.rise_all.Given as goal

abbrev pub invariant-loop-i : goal.invariant-loop-i
invariant-loop-i l = Swept (Rises l.wiring l.tms l.tdi l.initial.chips) l.i l.initial.chips l.chips
