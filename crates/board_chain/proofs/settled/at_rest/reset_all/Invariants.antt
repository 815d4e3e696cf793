use Rattle.board_model.specs.Whole.{reset_member}
use Rattle.board_chain.specs.AtRest.{Changes}
use Rattle.board_chain.proofs.SweepLaws.{Swept}
use Rattle.board_chain.proofs.settled.at_rest.reset_all.Given as goal

abbrev pub invariant-loop-chip : goal.invariant-loop-chip
invariant-loop-chip l = Swept (Changes reset_member) l.chip-index l.initial.chips l.chips
