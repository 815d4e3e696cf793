use Rattle.play_waves.proofs.DrawnLaws.{drawn_board, drawn_tdo, handed_on}
use Rattle.play_waves.proofs.laws.what_is_drawn_is_played.Goals as goal

pub returns-clause-board : goal.returns-clause-board
returns-clause-board c = drawn_board

pub returns-clause-tdo : goal.returns-clause-tdo
returns-clause-tdo c = drawn_tdo

pub returns-clause-tdos : goal.returns-clause-tdos
returns-clause-tdos c = handed_on
