use Rattle.board_chain.specs.AtRest.{CapturesAt}
use Rattle.board_chain.proofs.SweepLaws.{Swept}
use Rattle.board_chain.proofs.settled.at_rest.capture_all.Given as goal

abbrev pub invariant-loop-chip : goal.invariant-loop-chip
invariant-loop-chip l = Swept (CapturesAt l.wiring l.column) l.chip-index l.initial.chips l.chips
