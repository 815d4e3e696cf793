use Rattle.std.proofs.Common.{arith}
use Rattle.jt_bits.proofs.Runs.{not_bit}
use Rattle.board_description.proofs.blocks.invert.Goals as goal

pub returns : goal.returns
returns c = λ k h. not_bit c.args.word k (omega (arith, c.ranges.word)) h
