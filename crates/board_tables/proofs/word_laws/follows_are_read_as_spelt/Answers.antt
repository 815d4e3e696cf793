use Rattle.board_tables.proofs.FollowLaws.{follows_read_as_spelt}
use Rattle.board_tables.proofs.word_laws.follows_are_read_as_spelt.Goals as goal

pub returns : goal.returns
returns c = follows_read_as_spelt
