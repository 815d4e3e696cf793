use Rattle.bsdl_text.proofs.SpellingLaws.{significant_again, significant_digits, significant_value}
use Rattle.bsdl_text.proofs.digits.significant.Goals as goal

pub returns-clause-all : goal.returns-clause-all
returns-clause-all c = rw c.behind_zeros.ensures (significant_digits c.args.digits.now c.requires)

pub returns-clause-value : goal.returns-clause-value
returns-clause-value c = rw c.behind_zeros.ensures (significant_value c.args.digits.now)

pub returns-clause-starts : goal.returns-clause-starts
returns-clause-starts c = rw c.behind_zeros.ensures (significant_again c.args.digits.now)
