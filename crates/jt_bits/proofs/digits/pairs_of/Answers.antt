use Rattle.std.proofs.Common.{zero, suc, arith}
use Rattle.jt_bits.proofs.DigitLanes.{pair_at}
use Rattle.jt_bits.proofs.digits.pairs_of.Goals as goal

pub returns-clause-pairs : goal.returns-clause-pairs
returns-clause-pairs c zero lt high low = pair_at c.args.values 0 c.fits-values.0 (omega arith) high low
returns-clause-pairs c (suc zero) lt high low = pair_at c.args.values 2 c.fits-values.0 (omega arith) high low
returns-clause-pairs c (suc (suc zero)) lt high low = pair_at c.args.values 4 c.fits-values.0 (omega arith) high low
returns-clause-pairs c (suc (suc (suc zero))) lt high low = pair_at c.args.values 6 c.fits-values.0 (omega arith) high low
returns-clause-pairs c (suc (suc (suc (suc zero)))) lt high low = pair_at c.args.values 8 c.fits-values.0 (omega arith) high low
returns-clause-pairs c (suc (suc (suc (suc (suc zero))))) lt high low = pair_at c.args.values 10 c.fits-values.0 (omega arith) high low
returns-clause-pairs c (suc (suc (suc (suc (suc (suc zero)))))) lt high low = pair_at c.args.values 12 c.fits-values.0 (omega arith) high low
returns-clause-pairs c (suc (suc (suc (suc (suc (suc (suc zero))))))) lt high low = pair_at c.args.values 14 c.fits-values.0 (omega arith) high low
returns-clause-pairs c (suc (suc (suc (suc (suc (suc (suc (suc i)))))))) lt high low = absurd (omega arith)
