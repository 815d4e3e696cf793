use Rattle.std.proofs.Common.{arith, refl}
use Rattle.bsdl_sizes.proofs.lengths.are_codes.Goals as goal

pub returns : goal.returns
returns c = c.all_have_len.ensures 32 (omega arith, refl)
