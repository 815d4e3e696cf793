use Rattle.board_description.proofs.TakingLaws.{takes_as_the_board_does}
use Rattle.board_description.proofs.opcodes_are_told_as_the_board_plays_them.Goals as goal

pub returns : goal.returns
returns c = takes_as_the_board_does
