use Rattle.play_direct.proofs.WithinLaws.{larger_accept, accepted_lies, lies_accepted, earlier_accepted}
use Rattle.play_direct.proofs.laws.texts_stay_accepted_within_larger_limits.Goals as goal

pub returns-clause-larger : goal.returns-clause-larger
returns-clause-larger c = larger_accept

pub returns-clause-within : goal.returns-clause-within
returns-clause-within c = accepted_lies

pub returns-clause-kept : goal.returns-clause-kept
returns-clause-kept c = lies_accepted

pub returns-clause-earlier : goal.returns-clause-earlier
returns-clause-earlier c = earlier_accepted
