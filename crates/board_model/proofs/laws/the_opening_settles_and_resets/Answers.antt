use Rattle.board_model.proofs.BoardLaws.{opening_settles}
use Rattle.board_model.proofs.laws.the_opening_settles_and_resets.Goals as goal

pub returns : goal.returns
returns c = opening_settles
