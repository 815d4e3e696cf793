use Rattle.jt_board.proofs.StringLaws.{every_board_has_its_strings}
use Rattle.jt_board.proofs.laws.every_string_of_a_board_in_use_holds.Goals as goal

pub returns : goal.returns
returns c = every_board_has_its_strings
