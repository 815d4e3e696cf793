use Rattle.std.proofs.Common.{◌≡◌, drop}
use Rattle.board_description.specs.Blocks.{joined, x_taking}
use Rattle.board_description.proofs.blocks.first_in.Given as goal

-- what is left is looked through as the whole is
abbrev pub invariant-loop-block : goal.invariant-loop-block
invariant-loop-block l = x_taking (joined (drop l.block-index l.blocks)) l.pattern ≡ x_taking (joined l.blocks) l.pattern
