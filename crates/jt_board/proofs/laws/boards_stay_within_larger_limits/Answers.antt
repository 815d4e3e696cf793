use Rattle.jt_board.proofs.WithinLaws.{larger_make, lies_within, earlier_made}
use Rattle.jt_board.proofs.laws.boards_stay_within_larger_limits.Goals as goal

pub returns-clause-larger : goal.returns-clause-larger
returns-clause-larger c = larger_make

pub returns-clause-kept : goal.returns-clause-kept
returns-clause-kept c = lies_within

pub returns-clause-earlier : goal.returns-clause-earlier
returns-clause-earlier c = earlier_made
