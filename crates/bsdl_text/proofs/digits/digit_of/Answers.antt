use Rattle.bsdl_text.proofs.NumberLaws.{one_more}
use Rattle.bsdl_text.proofs.digits.digit_of.Goals as goal

pub returns-clause-value : goal.returns-clause-value
returns-clause-value c = one_more c.args.digits.now c.args.i c.requires.all c.requires.within
