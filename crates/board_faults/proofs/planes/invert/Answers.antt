use Rattle.std.proofs.Common.{arith}
use Rattle.board_faults.proofs.WordBits.{not_bit}
use Rattle.board_faults.proofs.planes.invert.Goals as goal

pub returns : goal.returns
returns c = λ k h. not_bit c.args.word k (omega (arith, c.ranges.word)) h
