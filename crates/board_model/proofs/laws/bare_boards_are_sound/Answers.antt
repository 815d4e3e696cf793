use Rattle.board_model.proofs.Powered.{bare_sound}
use Rattle.board_model.proofs.laws.bare_boards_are_sound.Goals as goal

pub returns : goal.returns
returns c = bare_sound
