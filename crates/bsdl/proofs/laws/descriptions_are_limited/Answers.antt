use Rattle.bsdl.proofs.WithinLaws.{said_within, lies_within, larger_say_more}
use Rattle.bsdl.proofs.laws.descriptions_are_limited.Goals as goal

pub returns-clause-within : goal.returns-clause-within
returns-clause-within c = said_within

pub returns-clause-kept : goal.returns-clause-kept
returns-clause-kept c = lies_within

pub returns-clause-larger : goal.returns-clause-larger
returns-clause-larger c = larger_say_more
