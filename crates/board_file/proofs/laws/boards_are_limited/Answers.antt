use Rattle.board_file.proofs.WithinLaws.{made_within, lies_within}
use Rattle.board_file.proofs.laws.boards_are_limited.Goals as goal

pub returns-clause-within : goal.returns-clause-within
returns-clause-within c = made_within

pub returns-clause-kept : goal.returns-clause-kept
returns-clause-kept c = lies_within
