use Rattle.std.proofs.Common.{arith}
use Rattle.jt_bits.proofs.Runs.{masked_put}
use Rattle.jt_bits.proofs.words.put_masked.Goals as goal

pub returns : goal.returns
returns c = masked_put c.args.words.now c.args.k c.args.bits c.args.mask c.requires (omega arith)
