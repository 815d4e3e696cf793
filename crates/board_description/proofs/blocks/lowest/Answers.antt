use Rattle.std.proofs.Common.{ℕ, ap, ◌∙◌, arith}
use Rattle.jt_bits.specs.Packed.{has_bit}
use Rattle.board_description.proofs.BlockLaws.{lowest_bit, no_bit}
use Rattle.board_description.proofs.blocks.lowest.Goals as goal

pub returns-then-word-eq0 : goal.returns-then-word-eq0
returns-then-word-eq0 c = λ k h. ap (λ (n : ℕ). has_bit n k) c.if-word-eq0.true ∙ no_bit k

pub returns : goal.returns
returns c = lowest_bit c.args.word c.if-word-eq0.false (omega (arith, c.ranges.word))
