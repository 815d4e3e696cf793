use Rattle.jt_bits.proofs.Solid.{solid_clean}
use Rattle.jt_bits.proofs.Bits.of_digits.Goals as goal

pub lowest-requires-clause-clean : goal.lowest-requires-clause-clean
lowest-requires-clause-clean c = solid_clean c.args.digits.now c.requires
