use Rattle.play_diagnosis.proofs.NumberLaws.{one_more}
use Rattle.play_diagnosis.proofs.lines.digit_of.Goals as goal

pub returns-clause-value : goal.returns-clause-value
returns-clause-value c = one_more c.args.digits.now c.args.i c.requires.all c.requires.within
