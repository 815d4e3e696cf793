use Rattle.board_faults.proofs.OnePlay.{one_play}
use Rattle.board_faults.proofs.laws.one_play_serves_all_faults.Goals as goal

pub returns : goal.returns
returns c = one_play
