use Rattle.board_chain.specs.AtRest.{Stands}
use Rattle.board_chain.proofs.SweepLaws.{Swept}
use Rattle.board_chain.proofs.settled.at_rest.stand_all.Given as goal

abbrev pub invariant-loop-chip : goal.invariant-loop-chip
invariant-loop-chip l = Swept (Stands l.state) l.chip-index l.initial.chips l.chips
