use Rattle.std.proofs.Common.{drop}
use Rattle.board_description.proofs.BlockLaws.{Takes}
use Rattle.board_description.proofs.blocks.taking.Given as goal

-- what is left decides of those that the word has
abbrev pub invariant-loop-i : goal.invariant-loop-i
invariant-loop-i l = Takes l.word (drop l.i l.columns) (drop l.i l.pattern) l.columns l.pattern
