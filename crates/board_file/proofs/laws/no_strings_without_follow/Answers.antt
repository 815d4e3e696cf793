use Rattle.board_file.proofs.FitLaws.{plain_board}
use Rattle.board_file.proofs.laws.no_strings_without_follow.Goals as goal

pub returns : goal.returns
returns c = plain_board
