use Rattle.board_tables.proofs.FollowLaws.{targets_as_spelt}
use Rattle.board_tables.proofs.word_laws.targets_are_as_spelt.Goals as goal

pub returns : goal.returns
returns c = targets_as_spelt
