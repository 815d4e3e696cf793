use Rattle.board_chain.specs.AtRest.{AssertsTrst}
use Rattle.board_chain.proofs.SweepLaws.{Swept}
use Rattle.board_chain.proofs.settled.at_rest.assert_trst_all.Given as goal

abbrev pub invariant-loop-chip : goal.invariant-loop-chip
invariant-loop-chip l = Swept (AssertsTrst l.rests) l.chip-index l.initial.chips l.chips
