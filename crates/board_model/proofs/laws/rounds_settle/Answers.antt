use Rattle.board_model.proofs.Following.{one_round_more}
use Rattle.board_model.proofs.laws.rounds_settle.Goals as goal

pub returns : goal.returns
returns c = one_round_more
